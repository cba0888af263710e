use Rattle.std.proofs.Common.{◌≡◌, ℕ, List, map}
use Rattle.verilog_text.specs.Trees.{member_tree}
use Rattle.verilog_places.specs.Trees.{placed_member, bare_members}
use Rattle.verilog_places.specs.Clocks.{clocked}
use Rattle.verilog_places.proofs.stripping.members.Given as goal

abbrev pub invariant-each : goal.invariant-each
invariant-each l = (clock : List ℕ) → map (member_tree clock) l.all.items ≡ map (clocked clock) (bare_members (map placed_member l.yielded))
