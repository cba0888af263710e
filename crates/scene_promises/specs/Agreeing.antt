-- Readers that agree on what an expression reads.
use Rattle.std.specs.Prelude.{◌≡◌}
use Rattle.lisa_tree.specs.Expressions as exprs
use Rattle.lisa_tree.specs.Expressions.{ExprTree}
use Rattle.typed_values.specs.Expressions.{Reader, value}

-- on each name, field and element that stands in it; of an array only the element that is read counts
abbrev pub AgreeOn : Reader → Reader → ExprTree → Type 0
AgreeOn r s (exprs.Number v base) = Unit {0}
AgreeOn r s (exprs.Named n) = r.named n ≡ s.named n
AgreeOn r s (exprs.Element n index) = AgreeOn r s index × (r.element n (value r index).bits ≡ s.element n (value r index).bits)
AgreeOn r s (exprs.Input field) = r.input field ≡ s.input field
AgreeOn r s (exprs.Output field) = r.input field ≡ s.input field
AgreeOn r s (exprs.Boundary pipe before after field) = r.boundary pipe before after field ≡ s.boundary pipe before after field
AgreeOn r s exprs.Decoded = r.decoded ≡ s.decoded
AgreeOn r s (exprs.Cast shape a) = AgreeOn r s a
AgreeOn r s (exprs.Complement a) = AgreeOn r s a
AgreeOn r s (exprs.Negate a) = AgreeOn r s a
AgreeOn r s (exprs.Two operator a b) = AgreeOn r s a × AgreeOn r s b
AgreeOn r s (exprs.Choose c a b) = AgreeOn r s c × AgreeOn r s a × AgreeOn r s b
