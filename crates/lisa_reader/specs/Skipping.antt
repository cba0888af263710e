-- Skipping a block of any tokens, up to the `}` that closes it.
use Rattle.std.specs.Prelude.{ℕ, zero, suc, List, [], ◌∷◌, Option, Some, None}
use Rattle.std.specs.Option.{option_map_or}
use Rattle.lisa_tree.specs.declared.tokens.Sign.TheVariants as signs
use Rattle.lisa_tree.specs.declared.tokens.TokenPart.{TokenPart}
use Rattle.lisa_tree.specs.declared.tokens.TokenPart.TheVariants as parts
use Rattle.lisa_tree.specs.Grammar.{Toks}

-- how many braces are open inside the block behind a token; none where the token closes the block
abbrev pub braces_after : TokenPart → ℕ → Option ℕ
braces_after (parts.Sign signs.OpenBrace) n = Some (suc n)
braces_after (parts.Sign signs.CloseBrace) zero = None
braces_after (parts.Sign signs.CloseBrace) (suc n) = Some n
braces_after t n = Some n

-- the tokens behind the block, where so many braces are open inside it
abbrev pub skip_of : Toks → ℕ → Option Toks
skip_of [] n = None
skip_of (t ∷ ts) n = option_map_or (skip_of ts) (braces_after t n) (Some ts)
