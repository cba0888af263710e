use Rattle.std.proofs.Common.{◌≡◌, drop, map, []}
use Rattle.verilog_text.specs.Clocked.{blocks}
use Rattle.verilog_places.specs.Trees.{placed_member, bare_members}
use Rattle.verilog_size_checks.specs.Sought.{driven_again}
use Rattle.verilog_size_checks.proofs.drivers.check_drivers.Given as goal

abbrev pub invariant-each : goal.invariant-each
invariant-each l = driven_again l.names.keys.items (blocks (bare_members (map placed_member (drop l.member-index l.members)))) ≡ driven_again [] (blocks (bare_members (map placed_member l.members)))
