use Rattle.std.proofs.Common.{◌≡◌, ◌++◌, map, drop}
use Rattle.std.specs.Prelude.{flat_map}
use Rattle.verilog_text.specs.Trees.{member_tree}
use Rattle.verilog_text.specs.Pieces.{piece_tok}
use Rattle.verilog_text.specs.Printing.{member_tokens}
use Rattle.verilog_text.proofs.printer.put_members.Given as goal

abbrev pub invariant-each : goal.invariant-each
invariant-each l = map piece_tok l.out.items ++ flat_map member_tokens (map (member_tree l.clock) (drop l.member-index l.members)) ≡ map piece_tok l.initial.out.items ++ flat_map member_tokens (map (member_tree l.clock) l.members)
