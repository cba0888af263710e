-- Tokens with their places, and those behind a sign.
use Rattle.std.specs.Prelude.{ℕ, List, ◌∷◌, map, Option, Some, None, ◌==◌, if◌then◌else◌}
use Rattle.verilog_text.specs.declared.tokens.VSign.{VSign}
use Rattle.verilog_text.specs.declared.tokens.VSign.TheVariants as signs
use Rattle.verilog_text.specs.Tokens as tokens
use Rattle.verilog_text.specs.Tokens.{vtok_of}
use Rattle.verilog_text.specs.declared.tokens.VToken.{VToken}
use Rattle.verilog_places.specs.Spelling.{PlacedToks}

-- the tokens with the places of their first bytes
abbrev pub placed_toks : List VToken → PlacedToks
placed_toks ts = map (λ (t : VToken). (t.at, vtok_of t)) ts

-- the number of a sign, in the order of the enum
abbrev pub number_of : VSign → ℕ
number_of signs.ShiftLeft = 0
number_of signs.ShiftRight = 1
number_of signs.LessEqual = 2
number_of signs.GreaterEqual = 3
number_of signs.EqualEqual = 4
number_of signs.NotEqual = 5
number_of signs.AndAnd = 6
number_of signs.OrOr = 7
number_of signs.Xnor = 8
number_of signs.OpenBrace = 9
number_of signs.CloseBrace = 10
number_of signs.OpenRound = 11
number_of signs.CloseRound = 12
number_of signs.OpenSquare = 13
number_of signs.CloseSquare = 14
number_of signs.Semicolon = 15
number_of signs.Comma = 16
number_of signs.Equal = 17
number_of signs.Less = 18
number_of signs.Greater = 19
number_of signs.Plus = 20
number_of signs.Minus = 21
number_of signs.Star = 22
number_of signs.And = 23
number_of signs.Or = 24
number_of signs.Caret = 25
number_of signs.Tilde = 26
number_of signs.Exclamation = 27
number_of signs.Question = 28
number_of signs.Colon = 29
number_of signs.At = 30

abbrev pub past_of : VSign → PlacedToks → Option PlacedToks
past_of sign ((at, tokens.Mark first) ∷ ts) = if number_of first == number_of sign then Some ts else None
past_of sign _ = None
