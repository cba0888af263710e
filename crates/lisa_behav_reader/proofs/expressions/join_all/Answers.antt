use Rattle.std.proofs.Common.{◌≡◌, ◌≤◌, arith}
use Rattle.lisa_tree.specs.Expressions as expressions
use Rattle.lisa_tree.specs.Expressions.{expr_tree, expr_depth}
use Rattle.operator_levels.specs.Stacks.{stack_in}
use Rattle.lisa_behav_reader.specs.Gives.{measured_tree}
use Rattle.operator_levels.proofs.StackLaws.{finished_depth}
use Rattle.lisa_behav_reader.proofs.expressions.join_all.Goals as goal

pub returns-in-Ok-clause-deep : goal.returns-in-Ok-clause-deep
returns-in-Ok-clause-deep c = λ le.
    let small : expr_depth (expr_tree c.args.operand.tree) ≤ c.args.budget = omega (arith, c.args.operand.counted, le) in
    let out : expr_depth (expr_tree c.in-Ok.tree.tree) ≤ c.args.budget = finished_depth expressions.Two expr_depth c.args.budget (stack_in measured_tree c.args.waiting) (expr_tree c.args.operand.tree) (expr_tree c.in-Ok.tree.tree) small c.in-Ok.ensures in
    omega (arith, c.in-Ok.tree.counted, out)
