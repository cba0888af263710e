-- The step program of a light description is what it is to be.
use Rattle.std.proofs.Common.{◌≡◌, ◌≤◌, ◌<◌, ℕ, Option, refl, sym, subst}
use Rattle.lisa_tree.specs.Descriptions.{DescriptionTree}
use Rattle.description_types.specs.Types.{Types}
use Rattle.module_sizes.specs.instruction_forms.Widths.{HasWidth}
use Rattle.module_sizes.specs.lisa_machine.Verdicts.{IsAccepted}
use Rattle.module_sizes.specs.lisa_machine.Machines.{IsSpelled}
use Rattle.module_sizes.specs.lisa_forms.Verdicts.{HasForms}
use Rattle.spelled_meanings.specs.meaning_promises.Fitting.{HaveNumbers, HaveWordPlaces}
use Rattle.module_sizes.specs.description_weight.Weights.{weight}
use Rattle.step_program.specs.Programs.{Program}
use Rattle.module_sizes.specs.program_declarations.Laws.{ShownIsDeclared}
use Rattle.spelled_meanings.specs.lowered_words.Laws.{AreApart}
use Rattle.spelled_meanings.specs.lowered_behaviors.Agreement.{HaveNumbersInBehaviors}
use Rattle.module_sizes.specs.lowered_edges.Programs.{edge_program}
use Rattle.module_sizes.specs.lowered_edges.Code.{IsEdgeProgram}
use Rattle.module_sizes.specs.lowered_edges.Laws.{HaveNumbersInTests, ProgramsAreArranged, ProgramsShowStates, ProgramsAreFormed, IsProgram}
use Rattle.module_sizes.proofs.lowered_edges_proofs.Worded.{words_are}
use Rattle.module_sizes.specs.Laws.{ModulesAreSmall}
use Rattle.lisa_lower.specs.Heavy.{weight_limit}
use Rattle.lisa_lower.specs.Lowered.{IsLowered}

-- what a spelled description has
pub record HasSpelled (d : DescriptionTree) : Type 0 where
  pub numbers : HaveNumbers d
  pub bodies : HaveNumbersInBehaviors d
  pub tests : HaveNumbersInTests d
  pub word_places : HaveWordPlaces d

-- what holds of each program of a description
pub record HasLaws (d : DescriptionTree) (types : Types) (declared : Option ℕ) : Type 0 where
  pub arranged : ProgramsAreArranged d types declared
  pub states : ProgramsShowStates d types declared
  pub formed : ProgramsAreFormed d types declared
  pub shown : ShownIsDeclared d declared
  pub small : ModulesAreSmall d types declared

module _ (d : DescriptionTree) (declared : Option ℕ) (accepted : IsAccepted d) (spelled : IsSpelled d) (has_forms : HasForms d) (apart : AreApart d) (wide : HasWidth d declared) (has : HasSpelled d) where
  module _ (p : Program) (edge : IsEdgeProgram d declared p) (laws : HasLaws d edge.known.types declared) where
    is_program : IsProgram d edge.known.types declared
    is_program = record {
      accepted = accepted;
      has_forms = has_forms;
      apart = apart;
      numbers = has.numbers;
      bodies = has.bodies;
      tests = has.tests;
      word_places = has.word_places;
      known = edge.known;
      kinds = edge.kinds;
      types_are = refl;
      arranged = laws.arranged wide (words_are d accepted spelled has_forms declared wide);
    }

    of_edges : weight d ≤ weight_limit → IsLowered d declared (edge_program d edge.known.types declared)
    of_edges light = record {
      light = light;
      formed = (laws.formed is_program).1 spelled;
      distinct = (laws.shown accepted spelled has_forms wide).distinct;
      has_width = wide;
      items = refl;
      arrays = refl;
      pins = refl;
      states = λ image entries rules none fit. laws.states is_program image rules none entries fit;
      shallow = λ k move low. ((laws.formed is_program).0.steps k move low).shallow;
      small = laws.small (record {
        spelled = spelled;
        accepted = accepted;
        has_forms = has_forms;
        places = has.word_places;
        arranged = is_program.arranged;
        formed = (laws.formed is_program).1 spelled;
      }) light;
    }

    pub is_lowered : weight d ≤ weight_limit → IsLowered d declared p
    is_lowered light = subst (IsLowered d declared) (sym edge.is) (of_edges light)
