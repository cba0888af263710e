use Rattle.std.proofs.lemmas.Result.{IfOk-weaker}
use Rattle.lisa_tree.specs.Descriptions.{description_tree}
use Rattle.lisa_lower.proofs.Correct.{is_lowered}
use Rattle.lisa_lower.proofs.lowering.lower_light.Goals as goal

pub returns : goal.returns
returns c =
    let d = description_tree c.args.machine.now in
    let declared = c.args.forms.now.width in
    let spelled = c.accepted.ensures.spelled in
    let numbers = c.spelled_numbers_are_low.ensures in
    IfOk-weaker c.lower_edges.result _ _
    (λ p edge. is_lowered d declared c.accepted.ensures.accepted spelled c.requires.forms.has_forms c.requires.coding.apart c.requires.forms.has_width
    (record {
      numbers = numbers.expressions spelled.bytes d spelled.spells;
      bodies = numbers.behaviors spelled.bytes d spelled.spells;
      tests = numbers.tests spelled.bytes d spelled.spells;
      word_places = c.spelled_roots_have_places.ensures spelled.bytes d spelled.spells;
    }) _ edge
    (record {
      arranged = c.programs_make_edges.ensures.arranged d edge.known.types declared;
      states = c.programs_show_states.ensures.states d edge.known.types declared;
      formed = c.programs_are_formed.ensures d edge.known.types declared;
      shown = c.shown_is_declared.ensures d declared;
      small = c.modules_are_small.ensures d edge.known.types declared;
    }) c.requires.light)
    c.lower_edges.ensures
