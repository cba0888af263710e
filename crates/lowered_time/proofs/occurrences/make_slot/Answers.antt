use Rattle.std.proofs.Common.{◌∙◌}
use Rattle.step_program.specs.Programs.{expr_tree}
use Rattle.step_pieces.specs.Pieces.{always}
use Rattle.step_pieces.specs.Drafts.{leaf_tree}
use Rattle.lowered_time.specs.Building.{slot_at, taken_at}
use Rattle.lowered_time.proofs.Putting.{on_ok, given_same, slot_made}
use Rattle.lowered_time.proofs.occurrences.make_slot.Goals as goal

pub returns : goal.returns
returns g c =
    let guard = leaf_tree c.in_ok-decoded.decoded in
    let word = leaf_tree c.in_ok-word.word in
    let d1 = c.hold_both.new.draft in
    let d2 = c.give.new.draft in
    let d3 = c.give-2.new.draft in
    on_ok c.give-2.result
    (λ last.
    slot_made (g.P.Parts.core c.args.parts.now) (g.P.Parts.operations c.args.parts.now) (g.P.Parts.layout c.args.parts.now) (leaf_tree c.args.guard) (leaf_tree c.in_ok-decodes.decodes) word
    c.args.draft.now d1 d2 d3 c.in_ok-decoded.decoded c.in_ok-decodes.ensures c.in_ok-word.ensures c.in_ok-decoded.ensures
    (given_same guard (expr_tree c.expression.result) word c.slot_at.result slot_at d1 d2 c.slot_at.ensures c.expression.ensures c.in_ok-give.ensures)
    (given_same guard (expr_tree c.expression-2.result) always c.taken_at.result taken_at d2 d3 c.taken_at.ensures (c.expression-2.ensures ∙ c.always.ensures) last))
    c.give-2.ensures
