use Rattle.std.proofs.Common.{◌≡◌, drop}
use Rattle.verilog_text.specs.Conditions.{targets}
use Rattle.verilog_places.specs.Trees.{placed_actions, bare_actions}
use Rattle.verilog_size_checks.specs.Sought.{first_of, again}
use Rattle.verilog_size_checks.proofs.drivers.+checks.Given as goal

abbrev pub invariant-check_actions-each : goal.invariant-check_actions-each
invariant-check_actions-each l = first_of (again l.earlier.keys.items) (targets (bare_actions (placed_actions (drop l.action-index l.actions)))) ≡ first_of (again l.earlier.keys.items) (targets (bare_actions (placed_actions l.actions)))
