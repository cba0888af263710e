-- The canonical text of tokens: where its lines end, how they begin, and where blanks stand.
use Rattle.std.specs.Prelude.{ℕ, suc, ◌-◌, ◌*◌, Bool, true, false, List, [], ◌∷◌, ◌++◌, Option, Some, None, replicate, not, ◌==◌, ◌||◌, if◌then◌else◌}
use Rattle.lisa_tree.specs.declared.tokens.Sign.{Sign}
use Rattle.lisa_tree.specs.declared.tokens.Sign.TheVariants as signs
use Rattle.lisa_tree.specs.declared.tokens.TokenPart.{TokenPart}
use Rattle.lisa_tree.specs.declared.tokens.TokenPart.TheVariants as parts
use Rattle.lisa_tree.specs.Grammar.{Toks}
use Rattle.lisa_tree.specs.Spellings.{token_text}

-- the sign that a token is, if it is one
abbrev pub sign_in : TokenPart → Option Sign
sign_in (parts.Sign sign) = Some sign
sign_in _ = None

abbrev pub is_semicolon : Option Sign → Bool
is_semicolon (Some signs.Semicolon) = true
is_semicolon _ = false

-- no blank stands before these
abbrev pub clings : Option Sign → Bool
clings (Some signs.Semicolon) = true
clings (Some signs.Comma) = true
clings (Some signs.CloseRound) = true
clings (Some signs.CloseSquare) = true
clings (Some signs.OpenSquare) = true
clings (Some signs.Dot) = true
clings _ = false

-- no blank stands behind these
abbrev pub leans : Option Sign → Bool
leans (Some signs.OpenRound) = true
leans (Some signs.OpenSquare) = true
leans (Some signs.Dot) = true
leans _ = false

-- how many braces are open behind a token, of those before it
abbrev pub braces_after : ℕ → Option Sign → ℕ
braces_after braces (Some signs.OpenBrace) = suc braces
braces_after braces (Some signs.CloseBrace) = braces - 1
braces_after braces _ = braces

-- how many round brackets are open behind a token, of those before it
abbrev pub rounds_after : ℕ → Option Sign → ℕ
rounds_after rounds (Some signs.OpenRound) = suc rounds
rounds_after rounds (Some signs.CloseRound) = rounds - 1
rounds_after rounds _ = rounds

-- a line ends behind `{`, behind `}` unless `;` follows, and behind `;` where no round bracket is open
abbrev pub ends_line : ℕ → Option Sign → Bool → Bool
ends_line rounds (Some signs.OpenBrace) semicolon_follows = true
ends_line rounds (Some signs.CloseBrace) semicolon_follows = not semicolon_follows
ends_line rounds (Some signs.Semicolon) semicolon_follows = rounds == 0
ends_line rounds _ semicolon_follows = false

-- a line begins with two blanks for each brace that is open before it, one brace fewer where it begins with `}`
abbrev pub braces_shown : ℕ → Option Sign → ℕ
braces_shown braces (Some signs.CloseBrace) = braces - 1
braces_shown braces _ = braces

abbrev pub line_start : ℕ → Option Sign → List ℕ
line_start braces next = 10 ∷ replicate (2 * braces_shown braces next) 32

-- what stands between a token and the next, where so many braces and round brackets are open behind the first
abbrev pub between : ℕ → ℕ → Option Sign → Option Sign → List ℕ
between braces rounds last next =
    if ends_line rounds last (is_semicolon next) then line_start braces next
    else (if leans last || clings next then [] else (32 ∷ []))

-- the text behind a token, where so many braces and round brackets are open behind it
abbrev pub text_behind : ℕ → ℕ → Option Sign → Toks → List ℕ
text_behind braces rounds last [] = if ends_line rounds last false then (10 ∷ []) else []
text_behind braces rounds last (t ∷ rest) =
    between braces rounds last (sign_in t) ++ (token_text t ++ text_behind (braces_after braces (sign_in t)) (rounds_after rounds (sign_in t)) (sign_in t) rest)

abbrev pub canonical_text : Toks → List ℕ
canonical_text [] = []
canonical_text (t ∷ rest) = token_text t ++ text_behind (braces_after 0 (sign_in t)) (rounds_after 0 (sign_in t)) (sign_in t) rest
