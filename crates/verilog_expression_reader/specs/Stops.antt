-- How tightly the next token holds on to what stands before it.
use Rattle.std.specs.Prelude.{ℕ, [], ◌∷◌}
use Rattle.std.specs.Option.{option_map_or}
use Rattle.lisa_words.specs.Operators.{level_of}
use Rattle.verilog_text.specs.declared.tokens.VSign.{VSign}
use Rattle.verilog_text.specs.declared.tokens.VSign.TheVariants as signs
use Rattle.verilog_text.specs.Tokens as tokens
use Rattle.verilog_text.specs.Tokens.{VTok}
use Rattle.verilog_places.specs.Spelling.{PlacedToks}
use Rattle.verilog_expression_reader.specs.Reading.{operator_of}

-- an operator as its level says, `?` as the loosest of them, and a `[`, which belongs to the name before it, more than any level
abbrev pub binds_sign : VSign → ℕ
binds_sign signs.OpenSquare = 13
binds_sign signs.Question = 1
binds_sign sign = option_map_or level_of (operator_of sign) 0

abbrev pub binds : VTok → ℕ
binds (tokens.Mark sign) = binds_sign sign
binds _ = 0

-- 0 where no expression goes on there
abbrev pub front_binds : PlacedToks → ℕ
front_binds [] = 0
front_binds (t ∷ ts) = binds t.1
