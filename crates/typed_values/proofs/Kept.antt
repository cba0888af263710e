-- `reset` keeps the type of each register, and what it gives to each is within that type's width.
use Rattle.std.proofs.Common.{◌≡◌, ◌∙◌, ℕ, List, [], ◌∷◌, map, refl, ap, Option, None, Some, arith}
use Rattle.std.specs.Prelude.{slice_index_or, codes, false}
use Rattle.std.specs.Map.{lookup}
use Rattle.std.proofs.lemmas.Nat.{pow_pos}
use Rattle.std.proofs.Math.Seq.{map-set_same}
use Rattle.std.proofs.lemmas.List.Elements.{All-set, All-map}
use Rattle.lisa_words.specs.declared.words.Kind.{Kind}
use Rattle.lisa_tree.specs.Expressions as exprs
use Rattle.lisa_tree.specs.Expressions.{ExprTree}
use Rattle.lisa_tree.specs.Statements.{StmtTrees}
use Rattle.lisa_tree.specs.Descriptions as trees
use Rattle.lisa_tree.specs.Descriptions.{ResourceTree, DescriptionTree}
use Rattle.lisa_tree.specs.Same.{same_name}
use Rattle.lisa_tree.specs.Resources.{resource_at}
use Rattle.lisa_tree.specs.Operations.{number_of, behavior_in, sections_at}
use Rattle.typed_values.specs.Words.{TypedWord, truth}
use Rattle.typed_values.specs.Effects.{like}
use Rattle.typed_values.proofs.Fitting.{fitted_within}
use Rattle.typed_values.proofs.Preserved.{Keeps, effects_kept}
use Rattle.typed_values.specs.ResetEffects.{Moment, first_value, first_moment, with_register, assigned, assigned_name, resetting, effect_of, reset_effect, reset_moment}
use Rattle.typed_values.specs.ResetLaws.{IsWithin, kind_of, width_of, first_kind, first_width, HaveTypes}

-- ---- at first

first_within : (r : ResourceTree) → IsWithin (first_value r)
first_within (trees.Register word shape name None) = pow_pos _
first_within (trees.Register word shape name (Some depth)) = omega arith
first_within (trees.Clocked word shape name) = pow_pos _
first_within (trees.Memory word shape name depth) = omega arith
first_within (trees.Pin shape name) = omega arith
first_within (trees.Pipeline name stages) = omega arith
first_within (trees.Fields pipe fields) = omega arith

first_kinds : (rs : List ResourceTree) → map kind_of (map first_value rs) ≡ map first_kind rs
first_kinds [] = refl
first_kinds (r ∷ rs) = ap (λ (l : List Kind). first_kind r ∷ l) (first_kinds rs)

first_widths : (rs : List ResourceTree) → map width_of (map first_value rs) ≡ map first_width rs
first_widths [] = refl
first_widths (r ∷ rs) = ap (λ (l : List ℕ). first_width r ∷ l) (first_widths rs)

first_kept : (rs : List ResourceTree) → HaveTypes rs (map first_value rs)
first_kept rs = record {
  kinds = first_kinds rs;
  widths = first_widths rs;
  within = All-map IsWithin first_value rs (λ k r lt. first_within (slice_index_or rs k r));
}

-- ---- an assigned register

register_kept : (rs : List ResourceTree) (m : Moment) (given : Kind → TypedWord) (number : Option ℕ) → HaveTypes rs m.registers → HaveTypes rs (with_register number given m).registers
register_kept rs m given None kept = kept
register_kept rs m given (Some k) kept =
    let old : TypedWord = slice_index_or m.registers k (truth false) in
    record {
      kinds = map-set_same kind_of m.registers k (like old given) (truth false) refl ∙ kept.kinds;
      widths = map-set_same width_of m.registers k (like old given) (truth false) refl ∙ kept.widths;
      within = All-set IsWithin m.registers k (like old given) (fitted_within (given old.kind) old.width) kept.within;
    }

named_kept : (d : DescriptionTree) (rs : List ResourceTree) (n : List ℕ) (given : Kind → TypedWord) (m : Moment) (local : Option TypedWord) → HaveTypes rs m.registers → HaveTypes rs (assigned_name d n given m local).registers
named_kept d rs n given m (Some old) kept = kept
named_kept d rs n given m None kept = register_kept rs m given (resource_at d n) kept

assigned_kept : (d : DescriptionTree) (rs : List ResourceTree) (target : ExprTree) (given : Kind → TypedWord) (m : Moment) → HaveTypes rs m.registers → HaveTypes rs (assigned d target given m).registers
assigned_kept d rs (exprs.Number number base) given m kept = kept
assigned_kept d rs (exprs.Named n) given m kept = named_kept d rs n given m (lookup (same_name n) m.locals) kept
assigned_kept d rs (exprs.Element n index) given m kept = kept
assigned_kept d rs (exprs.Input field) given m kept = kept
assigned_kept d rs (exprs.Output field) given m kept = kept
assigned_kept d rs (exprs.Boundary pipe before after field) given m kept = kept
assigned_kept d rs exprs.Decoded given m kept = kept
assigned_kept d rs (exprs.Cast shape a) given m kept = kept
assigned_kept d rs (exprs.Complement a) given m kept = kept
assigned_kept d rs (exprs.Negate a) given m kept = kept
assigned_kept d rs (exprs.Two operator a b) given m kept = kept
assigned_kept d rs (exprs.Choose c a b) given m kept = kept

-- ---- the behaviour

statements_keep : (d : DescriptionTree) (rs : List ResourceTree) → Keeps (resetting d) (λ m. HaveTypes rs m.registers)
statements_keep d rs = record {
  put = λ target given m kept. assigned_kept d rs target given m kept;
  call = λ n m kept. kept;
  stall = λ n m kept. kept;
  flush = λ n m kept. kept;
  locals = λ locals m kept. kept;
}

behavior_kept : (d : DescriptionTree) (rs : List ResourceTree) (behavior : Option StmtTrees) (m : Moment) → HaveTypes rs m.registers → HaveTypes rs (effect_of d behavior m).registers
behavior_kept d rs None m kept = kept
behavior_kept d rs (Some all) m kept = effects_kept (resetting d) (λ m. HaveTypes rs m.registers) (statements_keep d rs) all m kept

numbered_kept : (d : DescriptionTree) (number : Option ℕ) → HaveTypes d.resources (reset_effect d number).registers
numbered_kept d None = first_kept d.resources
numbered_kept d (Some o) = behavior_kept d d.resources (behavior_in (sections_at d o)) (first_moment d) (first_kept d.resources)

pub reset_keeps : (d : DescriptionTree) → HaveTypes d.resources (reset_moment d).registers
reset_keeps d = numbered_kept d (number_of d (codes "reset"))
