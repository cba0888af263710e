use Rattle.std.proofs.Common.{◌≡◌, ◌++◌, map, drop}
use Rattle.verilog_text.specs.Pieces.{piece_tok}
use Rattle.verilog_text.specs.Printing.{tokens_text}
use Rattle.verilog_text.proofs.printer.put_pieces.Given as goal

abbrev pub invariant-each : goal.invariant-each
invariant-each l = l.out.items ++ tokens_text (map piece_tok (drop l.piece-index l.pieces)) ≡ l.initial.out.items ++ tokens_text (map piece_tok l.pieces)
