use Rattle.std.proofs.Common.{◌≡◌, ◌-◌, Some, ◌++◌, ◌∷◌, [], refl, arith, sym, ◌∙◌}
use Rattle.std.proofs.lemmas.Result.{err_from_is_err_and}
use Rattle.lisa_tree.specs.Tokens.{toks}
use Rattle.lisa_behav_reader.specs.StmtReading.{stmts, many}
use Rattle.lisa_tree.specs.Statements.{stmt_tree, stmt_trees, Then, End}
use Rattle.lisa_behav_reader.specs.StmtGives.{glue}
use Rattle.lisa_behav_reader.proofs.StmtEquation.{stmts_is}
use Rattle.lisa_behav_reader.proofs.StmtLoop.{goes_on, fails_on, is_done, stmt_trees-push, block_there}
use Rattle.lisa_behav_reader.proofs.stmts.+statements.Goals as goal

pub block-returns-clause-exact : goal.block-returns-clause-exact
block-returns-clause-exact t c =
    let e : stmts (many (c.args.budget - 1) (toks c.args.tokens.now)) ≡ Some (stmt_trees c.in_ok-body.body.items, toks c.in_ok-body.rest.now) = rw (← c.saturating_sub.ensures) c.in_ok-body.ensures.exact in
    block_there c.args.budget (toks c.args.tokens.now) (toks c.in_ok-body.rest.now) (toks c.in_ok-rest.rest.now) c.in_ok-body.body e c.in_ok-rest.ensures.exact

pub statement-returns-clause-exact : goal.statement-returns-clause-exact
statement-returns-clause-exact t c = rw stmts_is c.by_front.ensures.exact

pub statements-returns-in_err-next-clause-exact : goal.statements-returns-in_err-next-clause-exact
statements-returns-in_err-next-clause-exact t c =
    let p = err_from_is_err_and c.from_residual.result c.from_residual.ensures.1 in
    rw (p.1, p.2) (fails_on _ _ _ _ c.each.invariant.0 c.in_err-next.field-0.0 (sym c.each-test.true ∙ c.ends.ensures) c.in_err-next.ensures.exact)

pub statements-each-preserved : goal.statements-each-preserved
statements-each-preserved t c =
    let more : stmt_trees c.push.new.self.items ≡ glue (stmt_trees c.each.all.items) (Then (stmt_tree c.in_ok-next.next) End) = rw c.in_ok-push.ensures.items (stmt_trees-push c.each.all.items c.in_ok-next.next) in
    (rw more (goes_on _ _ _ _ c.each.invariant.0 _ _ (sym c.each-test.true ∙ c.ends.ensures) c.in_ok-next.ensures.exact), omega (arith, c.each.invariant.1, c.in_ok-next.ensures.shorter))

pub statements-returns-clause-exact : goal.statements-returns-clause-exact
statements-returns-clause-exact t c = is_done _ _ _ _ c.each.invariant.0 (sym c.each-test.false ∙ c.ends.ensures)
