use Rattle.std.proofs.Common.{◌≡◌, ◌+◌, ◌++◌, map, drop}
use Rattle.verilog_text.specs.Trees.{action_trees, action_then, Done}
use Rattle.verilog_text.specs.Pieces.{piece_tok}
use Rattle.verilog_text.specs.Printing.{action_tokens, actions_size}
use Rattle.verilog_text.proofs.printer.+actions.Given as goal

abbrev pub invariant-put_actions-each : goal.invariant-put_actions-each
invariant-put_actions-each l = map piece_tok l.out.items ++ action_tokens (action_trees (drop l.action-index l.actions)) ≡ map piece_tok l.initial.out.items ++ action_tokens (action_trees l.actions)

abbrev pub decreases-put_action : goal.decreases-put_action
decreases-put_action l = actions_size (action_then l.action.now Done)

abbrev pub decreases-put_actions : goal.decreases-put_actions
decreases-put_actions l = actions_size (action_trees l.actions.now) + 1

abbrev pub decreases-put_block : goal.decreases-put_block
decreases-put_block l = actions_size (action_trees l.actions.now) + 2

abbrev pub decreases-put_else : goal.decreases-put_else
decreases-put_else l = actions_size (action_trees l.actions.now) + 3

abbrev pub decreases-put_if : goal.decreases-put_if
decreases-put_if l = actions_size (action_trees l.this.now) + actions_size (action_trees l.other.now) + 10
