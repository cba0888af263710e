use Rattle.std.proofs.Common.{List}
use Rattle.verilog_text.specs.Trees.{action_trees}
use Rattle.verilog_places.specs.declared.modules.PlacedAction.{PlacedAction}
use Rattle.verilog_places.specs.Trees.{placed_actions, bare_actions}
use Rattle.verilog_places.proofs.ListSteps.{Matches}
use Rattle.verilog_places.proofs.stripping.+acted.Given as goal

abbrev pub invariant-actions-each : goal.invariant-actions-each
invariant-actions-each l = Matches action_trees (λ (ys : List PlacedAction). bare_actions (placed_actions ys)) l.all.items l.yielded
