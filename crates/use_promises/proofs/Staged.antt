-- The own stages of operations are those of the pipeline.
use Rattle.std.proofs.Common.{◌≡◌, ◌<◌, ℕ, List, [], Option, None, Some, true, length, refl, sym, ap, ◌∙◌, inl}
use Rattle.std.specs.Prelude.{slice_get}
use Rattle.std.specs.Option.{is_some}
use Rattle.std.proofs.lemmas.Bool.{and_parts}
use Rattle.std.proofs.lemmas.Option.{slice_get_within}
use Rattle.lisa_tree.specs.declared.tokens.Shape.{Shape}
use Rattle.lisa_tree.specs.Descriptions as trees
use Rattle.lisa_tree.specs.Descriptions.{OperationTree, DescriptionTree}
use Rattle.description_places.specs.declared.sites.Region.TheVariants as regions
use Rattle.description_places.specs.Places as places
use Rattle.description_places.specs.Places.{at}
use Rattle.lisa_tree.specs.Same.{same_name}
use Rattle.lisa_tree.specs.Resources.{resource_at, stage_at, stages, is_pipeline}
use Rattle.lisa_tree.specs.Operations.{operation_at, own_stage}
use Rattle.lisa_machine.specs.description_types.Tables.{Known}
use Rattle.lisa_machine.specs.name_checks.Unknown.{unknown, unknown_fault, is_stage, head_unknown}
use Rattle.lisa_machine.specs.kind_checks.WrongKinds.{wrong_kind}
use Rattle.lisa_machine.specs.Freedom.{IsFree}
use Rattle.lisa_machine.proofs.Among.{free_place}
use Rattle.lisa_machine.proofs.Standing.{resource_stands, operation_stands}
use Rattle.lisa_machine.proofs.Decoding.{not_off, or_right, some_of, is_found, is_right, position_there}
use Rattle.use_promises.specs.Stages.{IsOwnStage}

module _ (d : DescriptionTree) where
  own_is : (o : ℕ) (operation : OperationTree) (pipe stage : List ℕ) → operation_at d o ≡ Some operation → operation.stage ≡ Some (pipe, stage) → own_stage d o ≡ stage_at d stage
  own_is o operation pipe stage is has = cc (is, has)

  stage_low : (stage : List ℕ) (s : ℕ) → stage_at d stage ≡ Some s → s < length (stages d)
  stage_low stage s e = let p = position_there (same_name stage) (stages d) s e in slice_get_within (stages d) s p.0 p.1

  pub own_low : (o s : ℕ) → own_stage d o ≡ Some s → s < length (stages d)
  own_low o s e = by (operation_at d o) refl
    where
      staged : (operation : OperationTree) → operation_at d o ≡ Some operation → (r : Option (List ℕ × List ℕ)) → operation.stage ≡ r → s < length (stages d)
      staged operation is None none = absurd (cc (is, none, e))
      staged operation is (Some (pipe, stage)) has = stage_low stage s (sym (own_is o operation pipe stage is has) ∙ e)

      by : (r : Option OperationTree) → operation_at d o ≡ r → s < length (stages d)
      by None none = absurd (cc (none, e))
      by (Some operation) is = staged operation is operation.stage refl

  pub stage_fits : IsFree (unknown d) d → (o : ℕ) (operation : OperationTree) (pipe stage : List ℕ) → operation_at d o ≡ Some operation → operation.stage ≡ Some (pipe, stage) → IsOwnStage d o pipe stage
  stage_fits stand o operation pipe stage is has =
      let u = free_place (unknown d) d stand _ (operation_stands d o operation is (at o regions.Head [] (places.Head operation)) (inl refl)) in
      let v : head_unknown d operation.name (Some (pipe, stage)) ≡ None = ap (head_unknown d operation.name) (sym has) ∙ u in
      let found = is_found operation.name (is_stage d pipe stage) stage (or_right (unknown_fault operation.name (is_some (resource_at d pipe)) pipe) (unknown_fault operation.name (is_stage d pipe stage) stage) v) in
      let p = and_parts (is_pipeline d pipe) (is_some (stage_at d stage)) found in
      let number = some_of (stage_at d stage) p.1 in
      record { pipeline = p.0; number = number.0; is = number.1; own = own_is o operation pipe stage is has ∙ number.1; low = stage_low stage number.0 number.1 }

  pub fields_piped : (known : Known) → IsFree (wrong_kind known d) d → (k : ℕ) (pipe : List ℕ) (all : List (Shape × List ℕ)) → slice_get d.resources k ≡ Some (trees.Fields pipe all) → is_pipeline d pipe ≡ true
  fields_piped known uses k pipe all is = not_off (is_pipeline d pipe) (is_right [] _ pipe (free_place (wrong_kind known d) d uses _ (resource_stands d k (trees.Fields pipe all) is)))
