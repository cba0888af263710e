use Rattle.std.proofs.Common.{◌≡◌, ◌+◌, ◌≤◌, drop, map, length}
use Rattle.verilog_text.specs.Clocked.{arrays}
use Rattle.verilog_places.specs.Trees.{placed_member, bare_members}
use Rattle.verilog_size_checks.proofs.counts.count_arrays.Given as goal

abbrev pub invariant-each : goal.invariant-each
invariant-each l = record {
  most : l.count ≤ l.member-index;
  sum : l.count + length (arrays (bare_members (map placed_member (drop l.member-index l.members)))) ≡ length (arrays (bare_members (map placed_member l.members)));
}
