use Rattle.std.proofs.Common.{◌≡◌, ◌∙◌, ap, sym, subst}
use Rattle.lisa_tree.specs.Descriptions.{DescriptionTree, description_tree}
use Rattle.lisa_tree.specs.declared.declared.Meaning.TheVariants.{Declared}
use Rattle.description_types.specs.Types.{meant_type}
use Rattle.description_types.specs.Tables.{known_by}
use Rattle.activation_plans.specs.lisa_forms.Parts.{AreFormsOf}
use Rattle.pipeline_time.specs.Sound.{IsSound}
use Rattle.pipeline_runs.specs.Turns.{IsPlanOf}
use Rattle.activation_plans.specs.lisa_meaning.Cores.{core_of}
use Rattle.lowered_behaviors.specs.scene_paths.Lookups.{tree_of}
use Rattle.lowered_layouts.specs.lowered_words.Rows.{IsWordWidth, row_size}
use Rattle.lowered_layouts.specs.lowered_words.Code.{words_tree}
use Rattle.lowered_layouts.specs.Code.{positions_tree}
use Rattle.lowered_behaviors.specs.Settled.{types_of, types_tree}
use Rattle.lowered_edges.specs.Code.{program_piece}
use Rattle.lowered_edges.proofs.Parting.{piece_is}
use Rattle.lowered_edges.proofs.programs.draft_edge.Goals as goal

pub make-requires-2-clause-width : goal.make-requires-2-clause-width
make-requires-2-clause-width c = (c.args.width, subst (λ (d : DescriptionTree). IsWordWidth d c.args.width) (sym c.requires.tree) c.requires.wide)

pub make-requires-3-clause-row : goal.make-requires-3-clause-row
make-requires-3-clause-row c = c.in_ok-row_size.ensures ∙ ap row_size c.in_ok-words.ensures

pub plan_of-requires-clause-forms : goal.plan_of-requires-clause-forms
plan_of-requires-clause-forms c = subst (λ (d : DescriptionTree). AreFormsOf d c.forms.result.now) c.requires.tree c.forms.ensures

pub plan_of-requires-clause-few : goal.plan_of-requires-clause-few
plan_of-requires-clause-few c =
    let limited = c.sizes_are_limited.ensures (description_tree c.args.machine.now) c.requires.has_forms in
    let within = limited.2 in
    within.few_stages

pub invariant_of-parts : goal.invariant_of-parts
invariant_of-parts c =
    let own : words_tree c.in_ok-words.words ≡ description_tree c.args.machine.now = c.in_ok-words.ensures ∙ c.requires.tree in
    record {
      same_types = λ i. ap (λ (d : DescriptionTree). meant_type (types_of c.in_ok-types.types) d (Declared i)) (c.in_ok-types.ensures.tree ∙ sym own);
      wide = subst (λ (d : DescriptionTree). IsWordWidth d c.args.width) (sym own) c.requires.wide;
    }

pub draft_parts-requires-clause-sound : goal.draft_parts-requires-clause-sound
draft_parts-requires-clause-sound c =
    let own : words_tree c.in_ok-words.words ≡ description_tree c.args.machine.now = c.in_ok-words.ensures ∙ c.requires.tree in
    subst (λ (d : DescriptionTree). IsSound (core_of d)) (sym own) (c.cores_are_sound.ensures (description_tree c.args.machine.now) c.accepted.ensures.accepted c.requires.has_forms)

pub draft_parts-requires-clause-planned : goal.draft_parts-requires-clause-planned
draft_parts-requires-clause-planned c =
    let own : words_tree c.in_ok-words.words ≡ description_tree c.args.machine.now = c.in_ok-words.ensures ∙ c.requires.tree in
    subst (λ (d : DescriptionTree). IsPlanOf (core_of d) c.in_ok-plan.plan) (sym own) c.in_ok-plan.ensures

pub draft_parts-requires-clause-width : goal.draft_parts-requires-clause-width
draft_parts-requires-clause-width c = c.in_ok-positions.ensures.wide

pub returns : goal.returns
returns c =
    let types = types_of c.in_ok-types.types in
    let own : words_tree c.in_ok-words.words ≡ description_tree c.args.machine.now = c.in_ok-words.ensures ∙ c.requires.tree in
    record {
      known = known_by c.in_ok-types.types.kinds;
      kinds = c.in_ok-types.ensures.kinds;
      is =
          c.in_ok-draft.ensures
          ∙ piece_is (words_tree c.in_ok-words.words) types c.args.width (positions_tree c.in_ok-positions.positions) (c.in_ok-positions.ensures.tree ∙ sym c.in_ok-words.ensures)
          ∙ ap (λ (d : DescriptionTree). program_piece d types c.args.width) own;
    }
