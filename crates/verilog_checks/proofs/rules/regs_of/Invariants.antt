use Rattle.std.proofs.Common.{◌≡◌, [], map, drop}
use Rattle.name_tables.specs.Keys.{insert_all}
use Rattle.verilog_checks.specs.Views.{told}
use Rattle.verilog_checks.specs.Readings.{reg_names}
use Rattle.verilog_checks.proofs.rules.regs_of.Given as goal

abbrev pub invariant-each : goal.invariant-each
invariant-each l = insert_all l.names.keys.items (reg_names (map told (drop l.event-index l.events))) ≡ insert_all [] (reg_names (map told l.events))
