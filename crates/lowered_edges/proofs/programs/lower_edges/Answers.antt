use Rattle.std.proofs.Common.{◌≡◌, ◌∙◌, ◌++◌, ◌-◌, ℕ, List, ap, length, map, replicate}
use Rattle.lisa_tree.specs.Descriptions.{description_tree}
use Rattle.machine_parts.specs.Parts.{first_values}
use Rattle.step_program.specs.Programs.{program_tree, move_of}
use Rattle.lowered_edges.proofs.Worded.{program_is}
use Rattle.lowered_edges.proofs.programs.lower_edges.Goals as goal

pub draft_edge-requires-clause-has_forms : goal.draft_edge-requires-clause-has_forms
draft_edge-requires-clause-has_forms c = c.requires.forms.has_forms

pub returns : goal.returns
returns c =
    let d = description_tree c.args.machine.now in
    let drafted = c.in_ok-temps.ensures in
    record {
      known = drafted.known;
      kinds = drafted.kinds;
      is =
          program_is d drafted.known.types c.args.forms.now.width c.word_width-width.result _ (c.in_ok-items.ensures ∙ c.items.ensures.is ∙ c.requires.forms.all_items) (c.in_ok-arrays.ensures ∙ c.arrays.ensures)
          (c.in_ok-pins.ensures ∙ c.pins.ensures)
          (c.in_ok-first.ensures ∙ ap (λ (count : ℕ). first_values d ++ replicate (count - length (first_values d)) 0) (c.len.ensures ∙ c.in_ok-items.items.ok.0)) drafted.is c.word_width-width.ensures.value;
    }
