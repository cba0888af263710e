-- Lines of a source that a form matches.
use Rattle.std.specs.Prelude.{◌≡◌, ℕ, ◌-◌, ◌^◌, Bool, true, List, [], ◌∷◌, ◌++◌}
use Rattle.asm_source.specs.Plain.{PlainSum, PlainToken, Run, Sign, Operand, sum_tree}
use Rattle.instruction_texts.specs.declared.shapes.Shape.{Shape}
use Rattle.instruction_texts.specs.declared.shapes.Shape.TheVariants.{Other, Literal, Unsigned, Signed}
use Rattle.instruction_texts.specs.declared.operands.Operand.{Operand as Given}
use Rattle.instruction_texts.specs.declared.operands.Operand.TheVariants as givens
use Rattle.instruction_texts.specs.declared.shapes.Token.{Token}
use Rattle.instruction_texts.specs.declared.shapes.Token.TheVariants as words
use Rattle.instruction_texts.specs.Runs.{base_of, value, ends}
use Rattle.instruction_texts.specs.Shapes.{lead, whole, upper, lower}

-- what a line gives for a number: its value, or the sum of an `@` operand
pub data Plain : Type 0 where
  Value : ℕ → Plain
  Added : PlainSum → Plain

abbrev pub given : Given → Plain
given (givens.Value v) = Value v
given (givens.Sum s) = Added (sum_tree s.now)

-- a run and `-` at the end of the prefix of a negative number, where the prefix isn't empty
abbrev pub sign_behind : List ℕ → List PlainToken → List PlainToken
sign_behind [] line = line
sign_behind (c ∷ p) line = Run (c ∷ p) ∷ line

-- the line is a text of the form, where an operand stands for the digits of any number without `-` behind its prefix
pub data Matches : List Shape → List Plain → List PlainToken → Type 0 where
  end : Matches [] [] []
  other : {c : ℕ} {ss : List Shape} {gs : List Plain} {ts : List PlainToken} → Matches ss gs ts → Matches (Other c ∷ ss) gs (Sign c ∷ ts)
  literal : {p : List ℕ} {ss : List Shape} {gs : List Plain} {ts : List PlainToken} → Matches ss gs ts → Matches (Literal p ∷ ss) gs (Run p ∷ ts)
  unsigned : {hex : Bool} {p : List ℕ} (cs : List ℕ) {n v : ℕ} {ss : List Shape} {gs : List Plain} {ts us : List PlainToken} → ends (whole hex n) cs ≡ true → v ≡ value (base_of hex) cs → Matches ss gs ts → us ≡ Run (lead hex p ++ cs) ∷ ts → Matches (Unsigned hex p n ∷ ss) (Value v ∷ gs) us
  positive : {p : List ℕ} (cs : List ℕ) {n v : ℕ} {ss : List Shape} {gs : List Plain} {ts us : List PlainToken} → ends (upper n) cs ≡ true → v ≡ value 10 cs → Matches ss gs ts → us ≡ Run (p ++ cs) ∷ ts → Matches (Signed p n ∷ ss) (Value v ∷ gs) us
  negative : {p : List ℕ} (cs : List ℕ) {n v : ℕ} {ss : List Shape} {gs : List Plain} {ts us : List PlainToken} → ends (lower n) cs ≡ true → v ≡ 2 ^ n - value 10 cs → Matches ss gs ts → us ≡ sign_behind p (Sign 45 ∷ Run cs ∷ ts) → Matches (Signed p n ∷ ss) (Value v ∷ gs) us
  operand : {hex : Bool} {p : List ℕ} {n : ℕ} {s : PlainSum} {ss : List Shape} {gs : List Plain} {ts : List PlainToken} → Matches ss gs ts → Matches (Unsigned hex p n ∷ ss) (Added s ∷ gs) (Operand p s ∷ ts)
  signed_operand : {p : List ℕ} {n : ℕ} {s : PlainSum} {ss : List Shape} {gs : List Plain} {ts : List PlainToken} → Matches ss gs ts → Matches (Signed p n ∷ ss) (Added s ∷ gs) (Operand p s ∷ ts)

-- a piece of a text as one of a line
abbrev pub plain_token : Token → PlainToken
plain_token (words.Word w) = Run w
plain_token (words.Sign c) = Sign c
