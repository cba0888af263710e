use Rattle.std.proofs.Common.{◌≡◌, ◌+◌, ◌++◌, map, drop}
use Rattle.verilog_text.specs.Printing.{actions_size}
use Rattle.verilog_text.specs.Conditions.{action_uses}
use Rattle.verilog_places.specs.Trees.{bare_actions, action_then, placed_actions, Done}
use Rattle.verilog_checks.specs.Views.{counted_use, behind}
use Rattle.verilog_checks.proofs.uses.+actions.Given as goal

abbrev pub decreases-put_action : goal.decreases-put_action
decreases-put_action l = actions_size (bare_actions (action_then l.action.now Done))

abbrev pub decreases-put_actions : goal.decreases-put_actions
decreases-put_actions l = actions_size (bare_actions (placed_actions l.actions.now)) + 1

abbrev pub decreases-put_if : goal.decreases-put_if
decreases-put_if l = actions_size (bare_actions (placed_actions l.this.now)) + actions_size (bare_actions (placed_actions l.other.now)) + 10

abbrev pub invariant-put_actions-each : goal.invariant-put_actions-each
invariant-put_actions-each l = map counted_use l.out.items ++ behind l.before (action_uses (bare_actions (placed_actions (drop l.action-index l.actions))))
    ≡ map counted_use l.initial.out.items ++ behind l.before (action_uses (bare_actions (placed_actions l.actions)))
