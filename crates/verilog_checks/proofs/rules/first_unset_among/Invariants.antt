use Rattle.std.proofs.Common.{◌≡◌, map, drop}
use Rattle.verilog_checks.specs.Views.{told}
use Rattle.verilog_checks.specs.Readings.{unset_in}
use Rattle.verilog_checks.proofs.rules.first_unset_among.Given as goal

abbrev pub invariant-each : goal.invariant-each
invariant-each l = unset_in l.regs.keys.items l.given.keys.items l.earlier.keys.items (map told (drop l.event-index l.events)) ≡ unset_in l.regs.keys.items l.given.keys.items l.initial.earlier.keys.items (map told l.events)
