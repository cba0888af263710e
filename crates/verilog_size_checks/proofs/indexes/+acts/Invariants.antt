use Rattle.std.proofs.Common.{◌≡◌, drop}
use Rattle.verilog_text.specs.Conditions.{action_indexes}
use Rattle.verilog_places.specs.Trees.{placed_actions, bare_actions}
use Rattle.verilog_size_checks.specs.Sought.{first_of, index_fault}
use Rattle.verilog_size_checks.specs.Scopes.{module_in}
use Rattle.verilog_size_checks.proofs.indexes.+acts.Given as goal

abbrev pub invariant-check_actions-each : goal.invariant-check_actions-each
invariant-check_actions-each l = first_of (index_fault (module_in l.scope)) (action_indexes (bare_actions (placed_actions (drop l.action-index l.actions)))) ≡ first_of (index_fault (module_in l.scope)) (action_indexes (bare_actions (placed_actions l.actions)))
