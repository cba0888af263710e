-- Where readers agree, values do.
use Rattle.std.proofs.Common.{◌≡◌, ◌∙◌, not, ap, ap₂, refl}
use Rattle.lisa_tree.specs.Expressions as exprs
use Rattle.lisa_tree.specs.Expressions.{ExprTree}
use Rattle.description_places.specs.Literals.{literal}
use Rattle.typed_values.specs.Words.{TypedWord, as_shape, truth, is_zero}
use Rattle.typed_values.specs.Operators.{operand, chosen}
use Rattle.typed_values.specs.Expressions.{Reader, made_of, complement, value}
use Rattle.scene_promises.specs.Agreeing.{AgreeOn}

pub agreed : (r s : Reader) (e : ExprTree) → AgreeOn r s e → value r e ≡ value s e
agreed r s (exprs.Number v base) h = refl
agreed r s (exprs.Named n) h = h
agreed r s (exprs.Element n index) h = h.1 ∙ ap (λ (v : TypedWord). s.element n v.bits) (agreed r s index h.0)
agreed r s (exprs.Input field) h = h
agreed r s (exprs.Output field) h = h
agreed r s (exprs.Boundary pipe before after field) h = h
agreed r s exprs.Decoded h = h
agreed r s (exprs.Cast shape a) h = ap (as_shape shape) (agreed r s a h)
agreed r s (exprs.Complement a) h = ap complement (agreed r s a h)
agreed r s (exprs.Negate a) h = ap (λ (v : TypedWord). truth (is_zero v)) (agreed r s a h)
agreed r s (exprs.Two operator a b) h = ap₂ (made_of operator (literal a) (literal b)) (agreed r s a h.0) (agreed r s b h.1)
agreed r s (exprs.Choose c a b) h =
    ap₂ (λ (x y : TypedWord). chosen (not (is_zero (value r c))) (operand (literal a) (literal b) x y) (operand (literal b) (literal a) y x)) (agreed r s a h.1) (agreed r s b h.2)
    ∙ ap (λ (z : TypedWord). chosen (not (is_zero z)) (operand (literal a) (literal b) (value s a) (value s b)) (operand (literal b) (literal a) (value s b) (value s a))) (agreed r s c h.0)
