use Rattle.std.proofs.Common.{arith, ◌∙◌}
use Rattle.std.proofs.lemmas.Result.{err_from_is_err_and}
use Rattle.verilog_expression_reader.specs.Past.{placed_toks}
use Rattle.verilog_expression_reader.proofs.ExprEquation.{at_whole, at_unary, at_primary}
use Rattle.verilog_expression_reader.proofs.PartLaws.{fails_part, no_comma, goes_part, ends_part}
use Rattle.verilog_expression_reader.proofs.ExprLoop.{fails_operand, goes_on, fails_push, fails_finish, ends_at}
use Rattle.verilog_expression_reader.proofs.expressions.+expressions.Goals as goal

pub any-returns-clause-exact : goal.any-returns-clause-exact
any-returns-clause-exact t c = rw at_whole c.test_and_branches.ensures.exact

pub operand-returns-clause-exact : goal.operand-returns-clause-exact
operand-returns-clause-exact t c = rw at_unary c.prefixed.ensures.exact

pub joined-returns-in_err-operand-clause-exact : goal.joined-returns-in_err-operand-clause-exact
joined-returns-in_err-operand-clause-exact t c =
    let p = err_from_is_err_and c.from_residual.result c.from_residual.ensures.1 in
    rw (p.1, p.2) (fails_operand _ _ _ _ c.operands.invariant.0 c.in_err-operand.field-0.0 c.in_err-operand.ensures.exact)

pub joined-returns-in_err-tree-clause-exact : goal.joined-returns-in_err-tree-clause-exact
joined-returns-in_err-tree-clause-exact t c =
    let p = err_from_is_err_and c.from_residual-in_err-tree.result c.from_residual-in_err-tree.ensures.1 in
    rw (p.1, p.2) (fails_finish _ _ _ _ c.operands.invariant.0 _ _ c.in_ok-operand.ensures.exact c.in_err-tree.field-0.0 (λ o e. c.in_default.not-Some o (c.operator_at.ensures ∙ e)) c.in_err-tree.ensures.exact)

pub joined-returns-in_default-clause-exact : goal.joined-returns-in_default-clause-exact
joined-returns-in_default-clause-exact t c =
    ends_at _ _ _ _ c.operands.invariant.0 _ _ c.in_ok-operand.ensures.exact _ (λ o e. c.in_default.not-Some o (c.operator_at.ensures ∙ e)) c.in_ok-tree.ensures.exact

pub joined-returns-in_err-waiting-clause-exact : goal.joined-returns-in_err-waiting-clause-exact
joined-returns-in_err-waiting-clause-exact t c =
    let p = err_from_is_err_and c.from_residual-in_err-waiting.result c.from_residual-in_err-waiting.ensures.1 in
    rw (p.1, p.2) (fails_push _ _ _ _ c.operands.invariant.0 _ _ c.in_ok-operand.ensures.exact c.in-Some.operator c.in_err-waiting.field-0.0 c.in-Some.ensures c.in_err-waiting.ensures.exact)

pub joined-operands-preserved : goal.joined-operands-preserved
joined-operands-preserved t c = (
  rw c.behind_one-rest.ensures.value (goes_on _ _ _ _ c.operands.invariant.0 _ _ c.in_ok-operand.ensures.exact c.in-Some.operator _ c.in-Some.ensures c.in_ok-waiting.ensures.exact),
  omega (arith, c.operands.invariant.1, c.behind_one-rest.ensures.shorter, c.in_ok-operand.ensures.shorter),
)

pub primary-returns-clause-exact : goal.primary-returns-clause-exact
primary-returns-clause-exact t c = rw at_primary c.leading.ensures.exact

pub parts-returns-in_err-part-clause-exact : goal.parts-returns-in_err-part-clause-exact
parts-returns-in_err-part-clause-exact t c =
    let p = err_from_is_err_and c.from_residual.result c.from_residual.ensures.1 in
    rw (p.1, p.2) (fails_part _ _ _ _ c.parts.invariant.0 c.in_err-part.field-0.0 c.in_err-part.ensures.exact)

pub parts-returns-in_default-clause-exact : goal.parts-returns-in_default-clause-exact
parts-returns-in_default-clause-exact t c =
    ends_part _ _ _ _ c.parts.invariant.0 _ _ c.in_ok-part.ensures.exact _ c.in_ok-all.ensures.value (no_comma _ _ (placed_toks c.in_ok-part.after.now) c.behind_comma.ensures.value c.in_default.not-Some)

pub parts-parts-preserved : goal.parts-parts-preserved
parts-parts-preserved t c = (
  goes_part _ _ _ _ c.parts.invariant.0 _ _ c.in_ok-part.ensures.exact _ c.in_ok-all.ensures.value _ c.in-Some.ensures.value,
  omega (arith, c.parts.invariant.1, c.in_ok-all.ensures.deep, c.in_ok-part.ensures.deep),
  omega (arith, c.parts.invariant.2, c.in-Some.ensures.shorter, c.in_ok-part.ensures.shorter),
)
