use Rattle.std.proofs.Common.{◌≤◌, arith}
use Rattle.verilog_places.specs.Trees.{placed_tree, two}
use Rattle.verilog_expression_reader.specs.Reading.{depth}
use Rattle.operator_levels.specs.Stacks.{stack_in}
use Rattle.verilog_expression_reader.specs.Gives.{measured_tree}
use Rattle.operator_levels.proofs.StackLaws.{finished_depth}
use Rattle.verilog_expression_reader.proofs.expressions.join_all.Goals as goal

pub returns-in-Ok-clause-deep : goal.returns-in-Ok-clause-deep
returns-in-Ok-clause-deep c = λ le.
    let small : depth (placed_tree c.args.operand.tree) ≤ c.args.budget = omega (arith, c.args.operand.counted, le) in
    let out : depth (placed_tree c.in-Ok.tree.tree) ≤ c.args.budget = finished_depth two depth c.args.budget (stack_in measured_tree c.args.waiting) (placed_tree c.args.operand.tree) (placed_tree c.in-Ok.tree.tree) small c.in-Ok.ensures in
    omega (arith, c.in-Ok.tree.counted, out)
