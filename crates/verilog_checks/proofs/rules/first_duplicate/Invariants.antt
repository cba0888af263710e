use Rattle.std.proofs.Common.{◌≡◌, [], ◌++◌, map, drop}
use Rattle.verilog_text.specs.Conditions.{names_of}
use Rattle.verilog_checks.specs.Views.{declared_by}
use Rattle.verilog_checks.specs.Readings.{again_in}
use Rattle.verilog_checks.proofs.rules.first_duplicate.Given as goal

abbrev pub invariant-each : goal.invariant-each
invariant-each l = (again_in l.names.keys.items (names_of (map declared_by (drop l.declaration-index l.declared))) ≡ again_in [] (names_of (map declared_by l.declared)))
    × (l.names.keys.items ++ names_of (map declared_by (drop l.declaration-index l.declared)) ≡ names_of (map declared_by l.declared))
