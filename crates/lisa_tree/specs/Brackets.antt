-- How many brackets are open at each token.
use Rattle.std.specs.Prelude.{ℕ, ◌+◌, ◌-◌, ◌<◌, ◌≤◌, List, length, take, fold}
use Rattle.lisa_tree.specs.declared.tokens.Sign.TheVariants as signs
use Rattle.lisa_tree.specs.declared.tokens.TokenPart.{TokenPart}
use Rattle.lisa_tree.specs.declared.tokens.TokenPart.TheVariants as parts

-- An opening bracket counts at itself. A closing one closes one open bracket of whatever sort, and nothing where none is open.
abbrev pub open_after : ℕ → TokenPart → ℕ
open_after n (parts.Sign signs.OpenRound) = n + 1
open_after n (parts.Sign signs.OpenSquare) = n + 1
open_after n (parts.Sign signs.OpenBrace) = n + 1
open_after n (parts.Sign signs.CloseRound) = n - 1
open_after n (parts.Sign signs.CloseSquare) = n - 1
open_after n (parts.Sign signs.CloseBrace) = n - 1
open_after n _ = n

-- how many are open at the token that i tokens stand before, itself counted
abbrev pub open_at : List TokenPart → ℕ → ℕ
open_at ts i = fold open_after 0 (take (i + 1) ts)

-- the first token at which more than 64 are open
pub record IsTooDeep (ts : List TokenPart) (i : ℕ) : Type 0 where
  pub within : i < length ts
  pub deep : 64 < open_at ts i
  pub first : (k : ℕ) → k < i → open_at ts k ≤ 64

-- at no token are more than 64 open
abbrev pub IsFlat : List TokenPart → Type 0
IsFlat ts = (k : ℕ) → k < length ts → open_at ts k ≤ 64
