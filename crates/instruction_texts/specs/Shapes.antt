-- The texts of a form: its shape with values in the places of its numbers.
use Rattle.std.specs.Prelude.{◌≡◌, ◌<◌, ◌≤◌, ℕ, ◌-◌, ◌^◌, Bool, true, false, List, [], ◌∷◌, ◌++◌, if◌then◌else◌}
use Rattle.instruction_texts.specs.declared.shapes.Shape.{Shape}
use Rattle.instruction_texts.specs.declared.shapes.Shape.TheVariants.{Other, Literal, Unsigned, Signed}
use Rattle.instruction_texts.specs.declared.shapes.Token.{Token}
use Rattle.instruction_texts.specs.declared.shapes.Token.TheVariants.{Word, Sign}
use Rattle.instruction_texts.specs.declared.shapes.Ending.{Ending}
use Rattle.instruction_texts.specs.declared.shapes.Ending.TheVariants.{Number}
use Rattle.instruction_texts.specs.Runs.{base_of, value, ends}

-- `0x`
abbrev pub zero_x : List ℕ
zero_x = 48 ∷ 120 ∷ []

-- what stands before the digits of a number
abbrev pub lead : Bool → List ℕ → List ℕ
lead hex p = if hex then p ++ zero_x else p

-- a number of n bits, and one with a sign that isn't negative, or is
abbrev pub whole : Bool → ℕ → Ending
whole hex n = Number hex false (2 ^ n - 1)

abbrev pub upper : ℕ → Ending
upper n = Number false false (2 ^ (n - 1) - 1)

abbrev pub lower : ℕ → Ending
lower n = Number false true (2 ^ (n - 1))

-- the prefix of a negative number is a run of its own, where it isn't empty
abbrev pub before_sign : List ℕ → List Token → List Token
before_sign [] ts = ts
before_sign (c ∷ p) ts = Word (c ∷ p) ∷ ts

-- these tokens are the text with these values, in the order of the text; a negative number counts modulo 2 ^ n
pub data Spells : List Shape → List ℕ → List Token → Type 0 where
  end : Spells [] [] []
  other : {c : ℕ} {ss : List Shape} {vs : List ℕ} {ts : List Token} → Spells ss vs ts → Spells (Other c ∷ ss) vs (Sign c ∷ ts)
  literal : {p : List ℕ} {ss : List Shape} {vs : List ℕ} {ts : List Token} → Spells ss vs ts → Spells (Literal p ∷ ss) vs (Word p ∷ ts)
  unsigned : {hex : Bool} {p : List ℕ} (cs : List ℕ) {n v : ℕ} {ss : List Shape} {vs : List ℕ} {ts us : List Token} → ends (whole hex n) cs ≡ true → v ≡ value (base_of hex) cs → Spells ss vs ts → us ≡ Word (lead hex p ++ cs) ∷ ts → Spells (Unsigned hex p n ∷ ss) (v ∷ vs) us
  positive : {p : List ℕ} (cs : List ℕ) {n v : ℕ} {ss : List Shape} {vs : List ℕ} {ts us : List Token} → ends (upper n) cs ≡ true → v ≡ value 10 cs → Spells ss vs ts → us ≡ Word (p ++ cs) ∷ ts → Spells (Signed p n ∷ ss) (v ∷ vs) us
  negative : {p : List ℕ} (cs : List ℕ) {n v : ℕ} {ss : List Shape} {vs : List ℕ} {ts us : List Token} → ends (lower n) cs ≡ true → v ≡ 2 ^ n - value 10 cs → Spells ss vs ts → us ≡ before_sign p (Sign 45 ∷ Word cs ∷ ts) → Spells (Signed p n ∷ ss) (v ∷ vs) us

-- a text of the form, with some values
abbrev pub IsText : List Shape → List Token → Type 0
IsText ss ts = (vs : List ℕ) × Spells ss vs ts

-- a number has from 1 to 64 bits
abbrev pub IsSized : Shape → Type 0
IsSized (Other c) = Unit {0}
IsSized (Literal p) = Unit {0}
IsSized (Unsigned hex p n) = (1 ≤ n) × (n ≤ 64)
IsSized (Signed p n) = (1 ≤ n) × (n ≤ 64)

-- no number with a sign has 0 bits
abbrev pub IsWide : List Shape → Type 0
IsWide [] = Unit {0}
IsWide (Signed p n ∷ ss) = (0 < n) × IsWide ss
IsWide (Other c ∷ ss) = IsWide ss
IsWide (Literal p ∷ ss) = IsWide ss
IsWide (Unsigned hex p n ∷ ss) = IsWide ss
