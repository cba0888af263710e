-- What holds of the modules of descriptions' programs.
use Rattle.std.specs.Prelude.{ℕ, ◌≤◌, Option}
use Rattle.lisa_tree.specs.Descriptions.{DescriptionTree}
use Rattle.description_types.specs.Types.{Types}
use Rattle.lisa_machine.specs.Verdicts.{IsAccepted}
use Rattle.lisa_machine.specs.Machines.{IsSpelled}
use Rattle.description_weight.specs.lisa_forms.Verdicts.{HasForms}
use Rattle.lowered_edges.specs.meaning_promises.Fitting.{HaveWordPlaces}
use Rattle.description_weight.specs.Weights.{weight}
use Rattle.step_program.specs.WellFormed.{IsWellFormed}
use Rattle.lowered_edges.specs.lowered_layouts.Items.{IsArranged}
use Rattle.lowered_edges.specs.Programs.{word_width, edge_program}
use Rattle.module_sizes.specs.Units.{IsSmall}

-- a description with forms, accepted as it is spelled, and its program, which is arranged for it and well formed
pub record HasProgram (d : DescriptionTree) (types : Types) (declared : Option ℕ) : Type 0 where
  pub spelled : IsSpelled d
  pub accepted : IsAccepted d
  pub has_forms : HasForms d
  pub places : HaveWordPlaces d
  pub arranged : IsArranged d declared (word_width declared) (edge_program d types declared)
  pub formed : IsWellFormed (edge_program d types declared)

-- the module of a light one is small
abbrev pub ModulesAreSmall : DescriptionTree → Types → Option ℕ → Type 0
ModulesAreSmall d types declared = HasProgram d types declared → weight d ≤ 50000 → IsSmall d (edge_program d types declared)
