use Rattle.std.proofs.Common.{◌≡◌, drop, map}
use Rattle.verilog_places.specs.Trees.{placed_member}
use Rattle.verilog_places.specs.WidePlaces.{wide_members}
use Rattle.verilog_size_checks.specs.Scopes.{widths_in}
use Rattle.verilog_size_checks.proofs.measures.wide_members.Given as goal

abbrev pub invariant-each : goal.invariant-each
invariant-each l = wide_members (widths_in l.scope) (map placed_member (drop l.member-index l.members)) ≡ wide_members (widths_in l.scope) (map placed_member l.members)
