use Rattle.std.proofs.Common.{◌≡◌, ◌<◌, ◌^◌, drop, fold}
use Rattle.verilog_text.specs.Lexing.{digits_number}
use Rattle.verilog_lexer.specs.Numbers.{next_number}
use Rattle.verilog_lexer.proofs.numbers.digits_value.Given as goal

abbrev pub invariant-loop-b : goal.invariant-loop-b
invariant-loop-b l = (fold (next_number l.base) l.value (drop l.b-index l.digits) ≡ digits_number l.base l.digits) × (l.value < 2 ^ 64)
