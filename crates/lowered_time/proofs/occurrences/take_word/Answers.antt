use Rattle.std.proofs.Common.{sym, ◌∙◌}
use Rattle.step_pieces.specs.Drafts.{leaf_tree}
use Rattle.lowered_time.proofs.Putting.{on_ok, word_taken}
use Rattle.lowered_time.proofs.occurrences.take_word.Goals as goal

pub returns : goal.returns
returns g c =
    on_ok c.make_slot.result
    (λ last.
    word_taken (g.P.Parts.core c.args.parts.now) (g.P.Parts.operations c.args.parts.now) (g.P.Parts.layout c.args.parts.now) c.args.number (leaf_tree c.args.guard) c.args.draft.now c.fetch.new.draft c.load.new.draft c.make_slot.new.draft c.in_ok-word.word
    (sym c.is_root.ensures ∙ c.if-not-is_root.false) c.in_ok-word.ensures c.in_ok-load.ensures last)
    c.make_slot.ensures
