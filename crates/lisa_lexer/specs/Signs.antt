-- Which bytes are a sign.
use Rattle.std.specs.Prelude.{ℕ, List, [], ◌∷◌, Option, Some, None, ◌==◌, ◌&&◌, if◌then◌else◌}
use Rattle.lisa_tree.specs.declared.tokens.Sign.{Sign}
use Rattle.lisa_tree.specs.declared.tokens.Sign.TheVariants as signs

-- the sign of one byte
abbrev pub one_byte : ℕ → Option Sign
one_byte b =
    if b == 123 then Some signs.OpenBrace
    else (if b == 125 then Some signs.CloseBrace
    else (if b == 40 then Some signs.OpenRound
    else (if b == 41 then Some signs.CloseRound
    else (if b == 91 then Some signs.OpenSquare
    else (if b == 93 then Some signs.CloseSquare
    else (if b == 59 then Some signs.Semicolon
    else (if b == 44 then Some signs.Comma
    else (if b == 46 then Some signs.Dot
    else (if b == 61 then Some signs.Equal
    else (if b == 60 then Some signs.Less
    else (if b == 62 then Some signs.Greater
    else (if b == 43 then Some signs.Plus
    else (if b == 45 then Some signs.Minus
    else (if b == 42 then Some signs.Star
    else (if b == 38 then Some signs.And
    else (if b == 124 then Some signs.Or
    else (if b == 94 then Some signs.Caret
    else (if b == 126 then Some signs.Tilde
    else (if b == 33 then Some signs.Exclamation
    else (if b == 63 then Some signs.Question
    else (if b == 58 then Some signs.Colon
    else (if b == 47 then Some signs.Slash
    else None))))))))))))))))))))))

-- the sign of two bytes
abbrev pub two_bytes : ℕ → ℕ → Option Sign
two_bytes b c =
    if b == 60 && c == 60 then Some signs.ShiftLeft
    else (if b == 62 && c == 62 then Some signs.ShiftRight
    else (if b == 60 && c == 61 then Some signs.LessEqual
    else (if b == 62 && c == 61 then Some signs.GreaterEqual
    else (if b == 61 && c == 61 then Some signs.EqualEqual
    else (if b == 33 && c == 61 then Some signs.NotEqual
    else (if b == 38 && c == 38 then Some signs.AndAnd
    else (if b == 124 && c == 124 then Some signs.OrOr
    else (if b == 35 && c == 85 then Some signs.DecimalFormat
    else (if b == 35 && c == 83 then Some signs.SignedFormat
    else (if b == 35 && c == 88 then Some signs.HexadecimalFormat
    else None))))))))))

-- the sign that a text is
abbrev pub sign_of : List ℕ → Option Sign
sign_of (b ∷ []) = one_byte b
sign_of (b ∷ c ∷ []) = two_bytes b c
sign_of _ = None
