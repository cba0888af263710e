-- What is read of no operand.
use Rattle.std.proofs.Common.{◌≡◌, ℕ, zero, suc, ⊎_elim, Bool, true, false, cond, List, [], ◌∷◌, drop, Option, Some, None, Ok, Err, refl, sym, ap, ◌∙◌}
use Rattle.std.specs.Prelude.{◌==◌}
use Rattle.asm_source.specs.declared.flaw.Flaw.{Flaw}
use Rattle.asm_source.specs.declared.flaw.Flaw.TheVariants as flaws
use Rattle.asm_source.specs.declared.operands.Atom.TheVariants.{Symbol}
use Rattle.asm_source.specs.Bytes.{is_word, is_name, front_is, front_word, behind_word}
use Rattle.asm_source.specs.Numbers.{number_of}
use Rattle.asm_source.specs.Plain.{PlainSum}
use Rattle.asm_source.specs.Sums.{◌>>=◌, Reading, value_or_bad, word_atom, atom_at, one_term, plus, behind_term, terms_at, inner_at, sum_at, operand_at}
use Rattle.source_grammar.specs.Refusals.{NoSum}
use Rattle.source_grammar.proofs.Runs.{by_test, bind_err, other_flaw, not_ok}
use Rattle.source_grammar.proofs.SumTexts.{paired, added_up, term_alone, ended, operand_found, operand_only}

abbrev IsBad : Flaw → Type 0
IsBad e = e ≡ flaws.BadExpression

value_err : (o : Option ℕ) (e : Flaw) → value_or_bad o ≡ Err e → IsBad e
value_err None e h = other_flaw _ e h
value_err (Some n) e h = absurd (not_ok _ e h)

word_err : (word : List ℕ) (e : Flaw) → word_atom word ≡ Err e → IsBad e
unfolding word_atom
word_err word e h =
    ⊎_elim
    (λ named. absurd (not_ok (Symbol (Some word)) e named.1))
    (λ other. value_err (number_of word) e other.1)
    (by_test (is_name word) (Ok (Symbol (Some word))) (value_or_bad (number_of word)) (Err e) h)

atom_err : (text : List ℕ) (e : Flaw) → atom_at text ≡ Err e → IsBad e
unfolding atom_at
atom_err [] e h = other_flaw _ e h
atom_err (b ∷ bs) e h =
    ⊎_elim
    (λ dollar. absurd (not_ok (Symbol None, bs) e dollar.1))
    (λ other. ⊎_elim (word_err (front_word (b ∷ bs)) e) (λ got. absurd (not_ok (got.0, behind_word (b ∷ bs)) e got.2)) (bind_err (word_atom (front_word (b ∷ bs))) (paired (behind_word (b ∷ bs))) e other.1))
    (by_test (b == 36) (Ok (Symbol None, bs)) (word_atom (front_word (b ∷ bs)) >>= paired (behind_word (b ∷ bs))) (Err e) h)

module _ (n : ℕ) (more : (minus : Bool) (text : List ℕ) (e : Flaw) → terms_at n minus text ≡ Err e → IsBad e) where
  joined_err : (first : PlainSum) (next : Bool) (bs : List ℕ) (e : Flaw) → (terms_at n next bs >>= added_up first) ≡ Err e → IsBad e
  joined_err first next bs e h = ⊎_elim (more next bs e) (λ got. absurd (not_ok (plus first got.0.0, got.0.1) e got.2)) (bind_err (terms_at n next bs) (added_up first) e h)

  behind_err : (first : PlainSum) (behind : List ℕ) (e : Flaw) → behind_term (terms_at n) first behind ≡ Err e → IsBad e
  behind_err first [] e h = other_flaw _ e h
  behind_err first (b ∷ bs) e h =
      ⊎_elim
      (λ end. absurd (not_ok (first, bs) e end.1))
      (λ on. ⊎_elim
      (λ plus_sign. joined_err first false bs e plus_sign.1)
      (λ other. ⊎_elim
      (λ minus_sign. joined_err first true bs e minus_sign.1)
      (λ none. other_flaw _ e none.1)
      (by_test (b == 45) (terms_at n true bs >>= added_up first) (Err flaws.BadExpression) (Err e) other.1))
      (by_test (b == 43) (terms_at n false bs >>= added_up first) (cond (b == 45) (terms_at n true bs >>= added_up first) (Err flaws.BadExpression)) (Err e) on.1))
      (by_test (b == 41) (Ok (first, bs)) (cond (b == 43) (terms_at n false bs >>= added_up first) (cond (b == 45) (terms_at n true bs >>= added_up first) (Err flaws.BadExpression))) (Err e) h)

terms_err : (n : ℕ) (minus : Bool) (text : List ℕ) (e : Flaw) → terms_at n minus text ≡ Err e → IsBad e
unfolding terms_at
terms_err zero minus text e h = other_flaw _ e h
terms_err (suc n) minus text e h =
    ⊎_elim
    (atom_err text e)
    (λ got. behind_err n (terms_err n) (one_term minus got.0.0) got.0.1 e got.2)
    (bind_err (atom_at text) (λ a. behind_term (terms_at n) (one_term minus a.0) a.1) e h)

inner_err : (text : List ℕ) (e : Flaw) → inner_at text ≡ Err e → IsBad e
unfolding inner_at
inner_err text e h =
    ⊎_elim
    (λ minus. terms_err 8 true (drop 1 text) e minus.1)
    (λ bare. terms_err 8 false text e bare.1)
    (by_test (front_is (λ b. b == 45) text) (terms_at 8 true (drop 1 text)) (terms_at 8 false text) (Err e) h)

sum_err : (text : List ℕ) (e : Flaw) → sum_at text ≡ Err e → IsBad e
sum_err [] e h = other_flaw _ e h
sum_err (b ∷ bs) e h =
    ⊎_elim
    (λ open_sign. inner_err bs e open_sign.1)
    (λ bare. ⊎_elim (atom_err (b ∷ bs) e) (λ got. absurd (not_ok (one_term false got.0.0, got.0.1) e got.2)) (bind_err (atom_at (b ∷ bs)) term_alone e bare.1))
    (by_test (b == 40) (inner_at bs) (atom_at (b ∷ bs) >>= term_alone) (Err e) h)

pub operand_err : (text : List ℕ) (e : Flaw) → operand_at text ≡ Err e → e ≡ flaws.BadExpression
unfolding operand_at
operand_err text e h =
    ⊎_elim
    (sum_err text e)
    (λ got. ⊎_elim
    (λ word. other_flaw _ e word.1)
    (λ end. absurd (not_ok got.0 e end.1))
    (by_test (front_is is_word got.0.1) (Err flaws.BadExpression) (Ok got.0) (Err e) got.2))
    (bind_err (sum_at text) ended e h)

pub no_sum : (text : List ℕ) (e : Flaw) → operand_at text ≡ Err e → NoSum text
no_sum text e h word rest s is spelled ends = not_ok (s, rest) e (sym (ap operand_at is ∙ operand_only spelled rest ends) ∙ h)

pub sum_none : (text : List ℕ) → NoSum text → operand_at text ≡ Err flaws.BadExpression
sum_none text none = by (operand_at text) refl
  where
    by : (r : Reading PlainSum) → operand_at text ≡ r → operand_at text ≡ Err flaws.BadExpression
    by (Ok x) is = let at = operand_found text x.0 x.1 is in absurd (none at.0.word x.1 x.0 at.0.is at.0.spelled at.1)
    by (Err e) is = is ∙ ap (λ (f : Flaw). Err f) (operand_err text e is)
