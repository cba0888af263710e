use Rattle.std.proofs.Common.{◌≡◌, map, drop}
use Rattle.verilog_checks.specs.Views.{declared_by, counted_use}
use Rattle.verilog_checks.specs.Readings.{first_use, is_against}
use Rattle.verilog_checks.proofs.rules.first_wrong_use.Given as goal

abbrev pub invariant-each : goal.invariant-each
invariant-each l = first_use (is_against (map declared_by l.declared)) (map counted_use (drop l.found-index l.uses)) ≡ first_use (is_against (map declared_by l.declared)) (map counted_use l.uses)
