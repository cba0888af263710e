-- What runs in place has to do with no stage.
use Rattle.std.proofs.Common.{◌≡◌, ℕ, List, codes, ⊎_elim, sym, ◌∙◌}
use Rattle.lisa_tree.specs.Descriptions.{DescriptionTree}
use Rattle.lisa_tree.specs.Operations.{name_at}
use Rattle.description_places.specs.declared.sites.Region.{Region}
use Rattle.description_places.specs.Scopes.{Scope}
use Rattle.description_places.specs.Places.{Place, at}
use Rattle.lisa_machine.specs.Freedom.{Stands}
use Rattle.lisa_machine.specs.Running.{FitsControl}
use Rattle.lisa_machine.specs.Soundness.{IsSound}
use Rattle.lisa_machine.proofs.Resolved.{reads_input, writes_output, no_output_read, reads_decoded}
use Rattle.use_promises.specs.Using.{RunsInPlace}
use Rattle.scene_promises.specs.Ends.{IsOfOwnStage, input, output, output_read, decoded}

module _ (d : DescriptionTree) (s : IsSound d) (o : ℕ) (runs : RunsInPlace d o) (region : Region) (scope : Scope) where
  pub no_stage : (place : Place) → Stands d (at o region scope place) → IsOfOwnStage place → ⊥
  no_stage _ stands (input field) = let w = (reads_input d s.known s.stand s.uses o region scope field stands).own in absurd (cc (sym runs.no_stage ∙ w))
  no_stage _ stands (output field) = let w = (writes_output d s.known s.stand s.uses o region scope field stands).own in absurd (cc (sym runs.no_stage ∙ w))
  no_stage _ stands (output_read field) = no_output_read d s.known s.stand s.uses o region scope field stands
  no_stage _ stands decoded = let w = (reads_decoded d s.known s.stand s.uses o region scope stands).root in absurd (cc (sym runs.no_root ∙ w))

  pub of_main : (pipe stage : List ℕ) → FitsControl d o pipe stage → name_at d o ≡ codes "main"
  of_main pipe stage fits = ⊎_elim (λ named. named) (λ own. absurd (cc (sym runs.no_stage ∙ own.1))) fits.controller
