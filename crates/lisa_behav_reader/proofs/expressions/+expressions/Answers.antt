use Rattle.std.proofs.Common.{◌≡◌, ◌≤◌, arith, sym, ◌∙◌}
use Rattle.std.proofs.lemmas.Result.{err_from_is_err_and}
use Rattle.lisa_behav_reader.proofs.ExprEquation.{at_whole, at_unary}
use Rattle.lisa_behav_reader.proofs.ExprLoop.{fails_operand, goes_on, fails_push, fails_finish, ends_at}
use Rattle.lisa_behav_reader.proofs.expressions.+expressions.Goals as goal

pub expression-returns-clause-exact : goal.expression-returns-clause-exact
expression-returns-clause-exact t c = rw at_whole c.test_and_branches.ensures.exact

pub operand-returns-clause-exact : goal.operand-returns-clause-exact
operand-returns-clause-exact t c = rw at_unary c.prefixed.ensures.exact

pub joined-returns-in_err-operand-clause-exact : goal.joined-returns-in_err-operand-clause-exact
joined-returns-in_err-operand-clause-exact t c =
    let p = err_from_is_err_and c.from_residual.result c.from_residual.ensures.1 in
    rw (p.1, p.2) (fails_operand _ _ _ _ c.operands.invariant.0 c.in_err-operand.field-0.0 c.in_err-operand.ensures.exact)

pub joined-returns-in_err-tree-clause-exact : goal.joined-returns-in_err-tree-clause-exact
joined-returns-in_err-tree-clause-exact t c =
    let p = err_from_is_err_and c.from_residual-in_err-tree.result c.from_residual-in_err-tree.ensures.1 in
    rw (p.1, p.2) (fails_finish _ _ _ _ c.operands.invariant.0 _ _ c.in_ok-operand.ensures.exact c.in_err-tree.field-0.0 (λ o e. c.in_default.not-Some o (c.operator_at.ensures ∙ e)) c.in_err-tree.ensures.exact)

pub joined-returns-in_default-clause-exact : goal.joined-returns-in_default-clause-exact
joined-returns-in_default-clause-exact t c =
    ends_at _ _ _ _ c.operands.invariant.0 _ _ c.in_ok-operand.ensures.exact _ (λ o e. c.in_default.not-Some o (c.operator_at.ensures ∙ e)) c.in_ok-tree.ensures.exact

pub joined-returns-in_err-waiting-clause-exact : goal.joined-returns-in_err-waiting-clause-exact
joined-returns-in_err-waiting-clause-exact t c =
    let p = err_from_is_err_and c.from_residual-in_err-waiting.result c.from_residual-in_err-waiting.ensures.1 in
    rw (p.1, p.2) (fails_push _ _ _ _ c.operands.invariant.0 _ _ c.in_ok-operand.ensures.exact c.in-Some.operator c.in_err-waiting.field-0.0 c.in-Some.ensures c.in_err-waiting.ensures.exact)

pub joined-operands-preserved : goal.joined-operands-preserved
joined-operands-preserved t c = (
  rw c.behind_one-rest.ensures.value (goes_on _ _ _ _ c.operands.invariant.0 _ _ c.in_ok-operand.ensures.exact c.in-Some.operator _ c.in-Some.ensures c.in_ok-waiting.ensures.exact),
  omega (arith, c.operands.invariant.1, c.behind_one-rest.ensures.shorter, c.in_ok-operand.ensures.shorter),
)
