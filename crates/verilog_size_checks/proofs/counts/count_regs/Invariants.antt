use Rattle.std.proofs.Common.{◌≡◌, ◌+◌, ◌≤◌, drop, map, length}
use Rattle.verilog_text.specs.Clocked.{regs}
use Rattle.verilog_places.specs.Trees.{placed_member, bare_members}
use Rattle.verilog_size_checks.proofs.counts.count_regs.Given as goal

abbrev pub invariant-each : goal.invariant-each
invariant-each l = record {
  most : l.count ≤ l.member-index;
  sum : l.count + length (regs (bare_members (map placed_member (drop l.member-index l.members)))) ≡ length (regs (bare_members (map placed_member l.members)));
}
