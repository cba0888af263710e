-- The tokens behind a sign.
use Rattle.std.specs.Prelude.{ℕ, List, [], ◌∷◌, Option, Some, None, ◌==◌, if◌then◌else◌}
use Rattle.lisa_tree.specs.declared.tokens.Sign.{Sign}
use Rattle.lisa_tree.specs.declared.tokens.Sign.TheVariants as signs
use Rattle.lisa_tree.specs.declared.tokens.TokenPart.TheVariants as parts
use Rattle.lisa_tree.specs.Grammar.{Toks}

-- the number of a sign, in the order of the enum
abbrev pub number_of : Sign → ℕ
number_of signs.ShiftLeft = 0
number_of signs.ShiftRight = 1
number_of signs.LessEqual = 2
number_of signs.GreaterEqual = 3
number_of signs.EqualEqual = 4
number_of signs.NotEqual = 5
number_of signs.AndAnd = 6
number_of signs.OrOr = 7
number_of signs.DecimalFormat = 8
number_of signs.SignedFormat = 9
number_of signs.HexadecimalFormat = 10
number_of signs.OpenBrace = 11
number_of signs.CloseBrace = 12
number_of signs.OpenRound = 13
number_of signs.CloseRound = 14
number_of signs.OpenSquare = 15
number_of signs.CloseSquare = 16
number_of signs.Semicolon = 17
number_of signs.Comma = 18
number_of signs.Dot = 19
number_of signs.Equal = 20
number_of signs.Less = 21
number_of signs.Greater = 22
number_of signs.Plus = 23
number_of signs.Minus = 24
number_of signs.Star = 25
number_of signs.And = 26
number_of signs.Or = 27
number_of signs.Caret = 28
number_of signs.Tilde = 29
number_of signs.Exclamation = 30
number_of signs.Question = 31
number_of signs.Colon = 32
number_of signs.Slash = 33

abbrev pub past_of : Sign → Toks → Option Toks
past_of sign (parts.Sign first ∷ ts) = if number_of first == number_of sign then Some ts else None
past_of sign _ = None
