use Rattle.std.proofs.Common.{◌≡◌, ◌≤◌, map, drop}
use Rattle.verilog_text.specs.Spelling.{first_deep}
use Rattle.verilog_lexer.specs.Answers.{placed}
use Rattle.verilog_lexer.proofs.brackets.too_deep.Given as goal

abbrev pub invariant-each : goal.invariant-each
invariant-each l = (first_deep l.depth (map placed (drop l.token-index l.tokens)) ≡ first_deep 0 (map placed l.tokens)) × (l.depth ≤ 64)
