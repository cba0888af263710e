use Rattle.std.proofs.Common.{◌≡◌, drop}
use Rattle.verilog_places.specs.Trees.{placed_actions}
use Rattle.verilog_places.specs.WidePlaces.{wide_actions}
use Rattle.verilog_size_checks.specs.Scopes.{widths_in}
use Rattle.verilog_size_checks.proofs.measures.+acts.Given as goal

abbrev pub invariant-wide_actions-each : goal.invariant-wide_actions-each
invariant-wide_actions-each l = wide_actions (widths_in l.scope) (placed_actions (drop l.action-index l.actions)) ≡ wide_actions (widths_in l.scope) (placed_actions l.actions)
