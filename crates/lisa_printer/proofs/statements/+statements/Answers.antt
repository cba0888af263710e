use Rattle.std.proofs.Common.{List, refl, sym, ap, ◌∙◌, arith}
use Rattle.std.proofs.lemmas.Result.{on_ok_weaker}
use Rattle.lisa_tree.specs.declared.statements.Stmt.{Stmt}
use Rattle.lisa_tree.specs.Statements.{stmt_tree, stmt_trees}
use Rattle.lisa_printer.specs.CanonicalTokens.{stmt_tokens, stmts_tokens}
use Rattle.lisa_printer.specs.Sheets.{write_all}
use Rattle.lisa_printer.proofs.LoopLaws.{one_more, stmt_tokens-Block}
use Rattle.lisa_printer.proofs.statements.+statements.Goals as goal

pub put_stmt-returns-in-Block : goal.put_stmt-returns-in-Block
put_stmt-returns-in-Block t c =
    on_ok_weaker c.put_block.result
    (λ e. e ∙ sym (ap (write_all c.args.page.now) (stmt_tokens-Block c.args.s.now c.in-Block.all c.deref.result.now c.in-Block.is c.deref.ensures.value)))
    c.put_block.ensures

pub put_stmt-returns-in-Flush : goal.put_stmt-returns-in-Flush
put_stmt-returns-in-Flush t c =
    on_ok_weaker c.put_control-in-Flush.result
    (λ e. e ∙ sym (ap (λ (s : Stmt). write_all c.args.page.now (stmt_tokens (stmt_tree s))) c.in-Flush.is))
    c.put_control-in-Flush.ensures

pub put_stmts-loop-s-preserved : goal.put_stmts-loop-s-preserved
put_stmts-loop-s-preserved t c =
    one_more (λ (xs : List Stmt). stmts_tokens (stmt_trees xs)) (λ (s : Stmt). stmt_tokens (stmt_tree s)) (λ x xs. refl)
    c.args.all.now c.loop-s.s-index c.s-item.result c.loop-s.page c.put_stmt.new.page _ (omega arith) c.s-item.is c.loop-s.invariant c.in_ok-put_stmt.ensures
