use Rattle.std.proofs.Common.{◌≡◌, ◌++◌, map, drop}
use Rattle.std.specs.Prelude.{flat_map}
use Rattle.verilog_text.specs.Pieces.{piece_tok}
use Rattle.verilog_text.specs.Printing.{input_tokens}
use Rattle.verilog_text.proofs.printer.put_inputs.Given as goal

abbrev pub invariant-each : goal.invariant-each
invariant-each l = map piece_tok l.out.items ++ flat_map input_tokens (drop l.item-index l.inputs) ≡ map piece_tok l.initial.out.items ++ flat_map input_tokens l.inputs
