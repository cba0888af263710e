use Rattle.std.proofs.Common.{◌≡◌, ◌+◌, length, map}
use Rattle.verilog_lexer.specs.Reading.{lex}
use Rattle.verilog_lexer.specs.Answers.{with_front, placed}
use Rattle.verilog_lexer.proofs.reading.all_tokens.Given as goal

abbrev pub invariant-each : goal.invariant-each
invariant-each l = (with_front (map placed l.tokens.items) (lex (l.at, l.rest)) ≡ lex (0, l.bytes)) × (l.at + length l.rest ≡ length l.bytes)

abbrev pub decreases-each : goal.decreases-each
decreases-each l = length l.rest
