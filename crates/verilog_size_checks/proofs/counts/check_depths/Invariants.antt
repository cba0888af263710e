use Rattle.std.proofs.Common.{◌≡◌, drop, map}
use Rattle.lisa_engine.specs.declared.parts.ArrayItem.{ArrayItem}
use Rattle.verilog_text.specs.Clocked.{arrays}
use Rattle.verilog_text.specs.Conditions.{Depth}
use Rattle.verilog_places.specs.Trees.{placed_member, bare_members}
use Rattle.verilog_size_checks.specs.Sought.{first_of, count_fault}
use Rattle.verilog_size_checks.proofs.counts.check_depths.Given as goal

abbrev pub invariant-each : goal.invariant-each
invariant-each l = first_of count_fault (map (λ (array : ArrayItem). Depth array.depth) (arrays (bare_members (map placed_member (drop l.member-index l.members))))) ≡ first_of count_fault (map (λ (array : ArrayItem). Depth array.depth) (arrays (bare_members (map placed_member l.members))))
