use Rattle.std.proofs.Common.{◌≡◌, map, drop}
use Rattle.verilog_checks.specs.Views.{counted_use}
use Rattle.verilog_checks.specs.Readings.{first_use, is_early}
use Rattle.verilog_checks.proofs.rules.first_undeclared.Given as goal

abbrev pub invariant-each : goal.invariant-each
invariant-each l = first_use (is_early l.names.keys.items) (map counted_use (drop l.found-index l.uses)) ≡ first_use (is_early l.names.keys.items) (map counted_use l.uses)
