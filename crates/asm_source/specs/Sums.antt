-- `@` operands.
use Rattle.std.specs.Prelude.{ℕ, zero, suc, pos, ◌+ℤ◌, Bool, true, false, List, [], ◌∷◌, ◌++◌, drop, Option, Some, None, Result, Ok, Err, ◌==◌, if◌then◌else◌}
use Rattle.asm_source.specs.declared.flaw.Flaw.{Flaw}
use Rattle.asm_source.specs.declared.flaw.Flaw.TheVariants.{BadExpression}
use Rattle.asm_source.specs.declared.operands.Atom.{Atom}
use Rattle.asm_source.specs.declared.operands.Atom.TheVariants.{Value, Symbol}
use Rattle.asm_source.specs.Bytes.{is_word, is_name, front_is, front_word, behind_word}
use Rattle.asm_source.specs.Numbers.{number_of, signed}
use Rattle.asm_source.specs.Plain.{PlainSum}

infixl 10 ◌>>=◌
abbrev pub ◌>>=◌ : {A B E : Type 0} → Result A E → (A → Result B E) → Result B E
(Ok x) >>= f = f x
(Err e) >>= f = Err e

-- what reading at the front of a text gives: a value and the text behind it
abbrev pub Reading : Type 0 → Type 0
Reading A = Result (A × List ℕ) Flaw

-- a name or a number, as a whole word
abbrev pub value_or_bad : Option ℕ → Result Atom Flaw
value_or_bad (Some n) = Ok (Value n)
value_or_bad None = Err BadExpression

unfoldable pub word_atom : List ℕ → Result Atom Flaw
word_atom word = if is_name word then Ok (Symbol (Some word)) else value_or_bad (number_of word)

-- a name, a number or `$`
unfoldable pub atom_at : List ℕ → Reading Atom
atom_at [] = Err BadExpression
atom_at (b ∷ bs) = if b == 36 then Ok (Symbol None, bs) else (word_atom (front_word (b ∷ bs)) >>= λ a. Ok (a, behind_word (b ∷ bs)))

-- a number goes to the constant, anything else to the terms
abbrev pub one_term : Bool → Atom → PlainSum
one_term minus (Value n) = record { constant = signed minus n; terms = [] }
one_term minus (Symbol s) = record { constant = pos 0; terms = record { minus = minus; name = s } ∷ [] }

abbrev pub plus : PlainSum → PlainSum → PlainSum
plus a b = record { constant = a.constant +ℤ b.constant; terms = a.terms ++ b.terms }

-- behind a term: the end, or another one
abbrev pub behind_term : (Bool → List ℕ → Reading PlainSum) → PlainSum → List ℕ → Reading PlainSum
behind_term more first [] = Err BadExpression
behind_term more first (b ∷ bs) =
    if b == 41 then Ok (first, bs)
    else (if b == 43 then (more false bs >>= λ s. Ok (plus first s.0, s.1))
    else (if b == 45 then (more true bs >>= λ s. Ok (plus first s.0, s.1)) else Err BadExpression))

-- at most so many terms and `)`
unfoldable pub terms_at : ℕ → Bool → List ℕ → Reading PlainSum
terms_at zero minus text = Err BadExpression
terms_at (suc n) minus text = atom_at text >>= λ a. behind_term (terms_at n) (one_term minus a.0) a.1

-- one to eight terms behind `@(`
unfoldable pub inner_at : List ℕ → Reading PlainSum
inner_at text = if front_is (λ b. b == 45) text then terms_at 8 true (drop 1 text) else terms_at 8 false text

abbrev pub sum_at : List ℕ → Reading PlainSum
sum_at [] = Err BadExpression
sum_at (b ∷ bs) = if b == 40 then inner_at bs else (atom_at (b ∷ bs) >>= λ a. Ok (one_term false a.0, a.1))

-- the operand behind an `@`, which no word character may follow directly
unfoldable pub operand_at : List ℕ → Reading PlainSum
operand_at text = sum_at text >>= λ s. if front_is is_word s.1 then Err BadExpression else Ok s
