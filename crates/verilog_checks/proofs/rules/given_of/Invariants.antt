use Rattle.std.proofs.Common.{◌≡◌, [], map, drop}
use Rattle.name_tables.specs.Keys.{insert_all}
use Rattle.verilog_checks.specs.Views.{told}
use Rattle.verilog_checks.specs.Readings.{given_names}
use Rattle.verilog_checks.proofs.rules.given_of.Given as goal

abbrev pub invariant-each : goal.invariant-each
invariant-each l = insert_all l.names.keys.items (given_names (map told (drop l.event-index l.events))) ≡ insert_all [] (given_names (map told l.events))
