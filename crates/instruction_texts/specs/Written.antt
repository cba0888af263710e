-- Texts as bytes, and the text of a form with given values.
use Rattle.std.specs.Prelude.{◌<◌, ℕ, ◌+◌, ◌-◌, ◌^◌, Bool, true, false, List, [], ◌∷◌, ◌++◌, map, drop, nat_eq, nat_lt, if◌then◌else◌}
use Rattle.std.specs.Int.Digits.{digits_of}
use Rattle.instruction_texts.specs.declared.shapes.Shape.{Shape}
use Rattle.instruction_texts.specs.declared.shapes.Shape.TheVariants.{Other, Literal, Unsigned, Signed}
use Rattle.instruction_texts.specs.declared.shapes.Token.{Token}
use Rattle.instruction_texts.specs.declared.shapes.Token.TheVariants.{Word, Sign}
use Rattle.instruction_texts.specs.Runs.{base_of}
use Rattle.instruction_texts.specs.Shapes.{lead, before_sign}

-- one blank between two neighbouring runs and nothing elsewhere, where a run may stand before the text
abbrev pub laid_out : Bool → List Token → List ℕ
laid_out behind_run [] = []
laid_out behind_run (Sign c ∷ ts) = c ∷ laid_out false ts
laid_out behind_run (Word w ∷ ts) = if behind_run then 32 ∷ (w ++ laid_out true ts) else w ++ laid_out true ts

-- the bytes of a text
abbrev pub text_bytes : List Token → List ℕ
text_bytes ts = laid_out false ts

-- whether a run stands last
abbrev pub ends_in_run : Bool → List Token → Bool
ends_in_run behind_run [] = behind_run
ends_in_run behind_run (Sign c ∷ ts) = ends_in_run false ts
ends_in_run behind_run (Word w ∷ ts) = ends_in_run true ts

abbrev pub char_of : ℕ → ℕ
char_of d = if nat_lt d 10 then 48 + d else 87 + d

-- the digits of a number, lower case and without leading zeros
abbrev pub numeral : ℕ → ℕ → List ℕ
numeral base v = if nat_eq v 0 then 48 ∷ [] else map char_of (digits_of base v)

abbrev pub base_numeral : Bool → ℕ → List ℕ
base_numeral hex v = numeral (base_of hex) v

-- one value for each number, which has its bits
abbrev pub Holds : List Shape → List ℕ → Type 0
Holds [] [] = Unit {0}
Holds (Other c ∷ ss) vs = Holds ss vs
Holds (Literal p ∷ ss) vs = Holds ss vs
Holds (Unsigned hex p n ∷ ss) (v ∷ vs) = (v < 2 ^ n) × Holds ss vs
Holds (Signed p n ∷ ss) (v ∷ vs) = (v < 2 ^ n) × Holds ss vs
Holds _ _ = ⊥

-- the digits behind their prefix
abbrev pub number_text : Bool → List ℕ → ℕ → Token
number_text hex p v = Word (lead hex p ++ base_numeral hex v)

abbrev pub signed_text : Bool → List ℕ → ℕ → ℕ → List Token
signed_text small p n v = if small then number_text false p v ∷ [] else before_sign p (Sign 45 ∷ number_text false [] (2 ^ n - v) ∷ [])

-- what a piece says, whose value, if it has one, is the first
abbrev pub said : Shape → List ℕ → List Token
said (Other c) vs = Sign c ∷ []
said (Literal p) vs = Word p ∷ []
said (Unsigned hex p n) (v ∷ vs) = number_text hex p v ∷ []
said (Signed p n) (v ∷ vs) = signed_text (nat_lt v (2 ^ (n - 1))) p n v
said _ [] = []

-- the values of what follows it
abbrev pub values_behind : Shape → List ℕ → List ℕ
values_behind (Other c) vs = vs
values_behind (Literal p) vs = vs
values_behind (Unsigned hex p n) vs = drop 1 vs
values_behind (Signed p n) vs = drop 1 vs

abbrev pub spelled : List Shape → List ℕ → List Token
spelled [] vs = []
spelled (s ∷ ss) vs = said s vs ++ spelled ss (values_behind s vs)

abbrev pub FirstBelow : ℕ → List ℕ → Type 0
FirstBelow n [] = ⊥
FirstBelow n (v ∷ vs) = v < 2 ^ n

-- the first value is that of the piece's number, if it has one
abbrev pub HoldsFirst : Shape → List ℕ → Type 0
HoldsFirst (Other c) vs = Unit {0}
HoldsFirst (Literal p) vs = Unit {0}
HoldsFirst (Unsigned hex p n) vs = FirstBelow n vs
HoldsFirst (Signed p n) vs = FirstBelow n vs
