use Rattle.std.proofs.Common.{arith}
use Rattle.std.proofs.lemmas.Result.{on_ok_weaker}
use Rattle.step_program.specs.Programs.{expr_tree}
use Rattle.step_pieces.specs.Drafts.{leaf_tree}
use Rattle.lowered_words.specs.Code.{words_tree}
use Rattle.lowered_words.proofs.Writing.{row_put}
use Rattle.lowered_words.proofs.words.Words.load.Goals as goal

pub returns : goal.returns
returns c = on_ok_weaker c.load_forms.result
    (λ flags.
    row_put (words_tree c.args.self.now) c.args.width c.args.base c.in_ok-decoded.decoded _ c.in_ok-scratch.scratch (leaf_tree c.args.word) (expr_tree c.expression.result)
    c.args.draft.now c.reserve.new.self c.set.new.self c.clear_all.new.draft c.load_forms.new.draft
    c.in_ok-decoded.ensures (let l = c.len.ensures.len in let n = c.args.self.now.ways.count in omega (arith, l, n)) c.in_ok-scratch.ensures.temp c.expression.ensures
    c.in_ok-scratch.ensures.draft c.in_ok-set.ensures c.in_ok-clear_all.ensures flags)
    c.load_forms.ensures
