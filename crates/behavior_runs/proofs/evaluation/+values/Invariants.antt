use Rattle.std.proofs.Common.{◌+◌, ◌*◌, suc}
use Rattle.lisa_tree.specs.Expressions.{expr_tree, expr_depth}
use Rattle.lisa_tree.specs.Descriptions.{description_depth}
use Rattle.behavior_runs.specs.Views.{view_tree}
use Rattle.behavior_runs.proofs.evaluation.+values.Given as goal

abbrev pub decreases-value_at : goal.decreases-value_at
decreases-value_at l = 4 * (l.levels * suc (description_depth (view_tree l.view)) + expr_depth (expr_tree l.expression.now))

abbrev pub decreases-operand : goal.decreases-operand
decreases-operand l = suc (4 * (l.levels * suc (description_depth (view_tree l.view)) + expr_depth (expr_tree l.expression.now)))

abbrev pub decreases-name_value : goal.decreases-name_value
decreases-name_value l = suc (suc (4 * (l.levels * suc (description_depth (view_tree l.view)))))

abbrev pub decreases-child_value : goal.decreases-child_value
decreases-child_value l = suc (4 * (l.levels * suc (description_depth (view_tree l.view))))
