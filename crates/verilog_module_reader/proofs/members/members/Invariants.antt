use Rattle.std.proofs.Common.{◌≡◌, ◌≤◌, length, map}
use Rattle.lisa_words.specs.Many.{with_front, many}
use Rattle.verilog_places.specs.Trees.{placed_member}
use Rattle.verilog_expression_reader.specs.Past.{placed_toks}
use Rattle.verilog_module_reader.specs.Members.{member_of, ends_module, members_of}
use Rattle.verilog_module_reader.proofs.members.members.Given as goal

abbrev pub invariant-each : goal.invariant-each
invariant-each l = (with_front (map placed_member l.all.items) (many (member_of l.budget) ends_module (placed_toks l.rest)) ≡ members_of l.budget (placed_toks l.tokens)) × (length l.rest ≤ length l.tokens)

abbrev pub decreases-each : goal.decreases-each
decreases-each l = length l.rest
