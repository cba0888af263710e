use Rattle.std.proofs.Common.{◌≡◌, ℕ, ◌+◌, ◌++◌, List, map, drop}
use Rattle.verilog_text.specs.Trees.{Done, action_then, action_trees}
use Rattle.verilog_text.specs.Clocked.{env_of, updates, widths_of}
use Rattle.verilog_text.specs.Clockable.{AreNarrowActions}
use Rattle.verilog_clock.specs.Compiled.{acts_updates}
use Rattle.verilog_clock.specs.Named.{AreWithin, placed}
use Rattle.verilog_clock.specs.Scopes.{module_in}
use Rattle.verilog_clock.proofs.Trees.{actions_size}
use Rattle.verilog_clock.proofs.actions.+acts.Given as goal

abbrev pub invariant-compile_actions-each : goal.invariant-compile_actions-each
invariant-compile_actions-each l = record {
  left : (values : List ℕ) (cells : List (List ℕ)) → AreWithin (module_in l.scope) values cells
      → acts_updates values cells l.acts.items ++ map (placed (module_in l.scope)) (updates (env_of (module_in l.scope) values cells) (action_trees (drop l.action-index l.actions)))
      ≡ acts_updates values cells l.initial.acts.items ++ map (placed (module_in l.scope)) (updates (env_of (module_in l.scope) values cells) (action_trees l.actions));
  narrow : AreNarrowActions (widths_of (module_in l.scope)) (action_trees (drop l.action-index l.actions));
}

abbrev pub decreases-compile_action : goal.decreases-compile_action
decreases-compile_action l = actions_size (action_then l.action.now Done)

abbrev pub decreases-compile_actions : goal.decreases-compile_actions
decreases-compile_actions l = actions_size (action_trees l.actions.now) + 1
