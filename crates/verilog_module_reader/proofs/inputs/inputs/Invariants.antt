use Rattle.std.proofs.Common.{◌≡◌, ◌≤◌, length}
use Rattle.lisa_words.specs.Many.{with_front, many}
use Rattle.verilog_expression_reader.specs.Past.{placed_toks}
use Rattle.verilog_module_reader.specs.Parts.{input_of, ends_inputs, inputs_of}
use Rattle.verilog_module_reader.proofs.inputs.inputs.Given as goal

abbrev pub invariant-each : goal.invariant-each
invariant-each l = (with_front l.all.items (many input_of ends_inputs (placed_toks l.rest)) ≡ inputs_of (placed_toks l.tokens)) × (length l.rest ≤ length l.tokens)

abbrev pub decreases-each : goal.decreases-each
decreases-each l = length l.rest
