use Rattle.std.proofs.Common.{◌≡◌, ◌+◌, ◌*◌, ◌^◌, ◌≤◌, drop, map, length}
use Rattle.std.specs.Prelude.{sum_by}
use Rattle.lisa_engine.specs.declared.parts.ArrayItem.{ArrayItem}
use Rattle.verilog_text.specs.Clocked.{arrays}
use Rattle.verilog_places.specs.Trees.{placed_member, bare_members}
use Rattle.verilog_size_checks.proofs.counts.count_cells.Given as goal

abbrev pub invariant-each : goal.invariant-each
invariant-each l = record {
  most : l.count + 2 ^ 32 * length (arrays (bare_members (map placed_member (drop l.member-index l.members)))) ≤ 2 ^ 32 * 1024;
  sum : l.count + sum_by (λ (array : ArrayItem). array.depth) (arrays (bare_members (map placed_member (drop l.member-index l.members)))) ≡ sum_by (λ (array : ArrayItem). array.depth) (arrays (bare_members (map placed_member l.members)));
}
