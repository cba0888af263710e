-- The tokens of an instruction: what is read, and the spelling.
use Rattle.std.proofs.Common.{◌≡◌, ℕ, ◌<◌, ⊎_elim, true, false, cond, List, [], ◌∷◌, ◌++◌, length, Option, Some, None, Result, Ok, refl, sym, ap, ◌∙◌, append_assoc, arith, subst}
use Rattle.std.specs.Prelude.{◌==◌, codes}
use Rattle.std.specs.List.{list_all}
use Rattle.std.proofs.lemmas.Bool.{and_parts, eqb-true}
use Rattle.std.proofs.lemmas.List.{append-nil, length-append}
use Rattle.asm_source.specs.declared.flaw.Flaw.{Flaw}
use Rattle.asm_source.specs.Bytes.{is_blank, is_word, front_is, skip_blanks, front_word, behind_word}
use Rattle.asm_source.specs.Plain.{PlainSum, PlainToken, Run, Sign, Operand}
use Rattle.asm_source.specs.Sums.{◌>>=◌, operand_at}
use Rattle.asm_source.specs.Parts.{is_empty, token_of, token_at}
use Rattle.asm_source.proofs.Stops.{no_token}
use Rattle.source_grammar.specs.Grammar.{AreBlanks, EndsWord, SpellsToken, run, operand, sign, SpellsTokens, no_tokens, token}
use Rattle.source_grammar.proofs.Runs.{bind_ok, by_test, word_is, word_all, word_ends, front_word_is, behind_word_is, blanks_of, skipped_all, skip_is, word_blank}
use Rattle.source_grammar.proofs.SumTexts.{operand_found, operand_only}
use Rattle.source_grammar.proofs.Chains.{Chain, stop, link, Takes}

abbrev Read : Type 0
Read = Result (Option (PlainToken × List ℕ)) Flaw

pub empty_is : (w : List ℕ) → is_empty w ≡ true → w ≡ []
empty_is [] h = refl
empty_is (c ∷ w) h = absurd (cc h)

pub some_length : (w : List ℕ) → is_empty w ≡ false → 0 < length w
some_length [] h = absurd (cc h)
some_length (c ∷ w) h = omega arith

pub some_empty : (w : List ℕ) → 0 < length w → is_empty w ≡ false
some_empty [] h = absurd (omega arith)
some_empty (c ∷ w) h = refl

-- a token at the front of a text
pub record TokenAt (text : List ℕ) (t : PlainToken) (rest : List ℕ) : Type 0 where
  pub word : List ℕ
  pub is : text ≡ word ++ rest
  pub spelled : SpellsToken word t rest

same_token : (x : PlainToken × List ℕ) (t : PlainToken) (rest : List ℕ) → ◌≡◌ {A = Read} (Ok (Some x)) (Ok (Some (t, rest))) → (x.0 ≡ t) × (x.1 ≡ rest)
same_token x t rest e = let same : x ≡ (t, rest) = cc in (ap (λ y. y.0) same, ap (λ y. y.1) same)

not_none : (t : PlainToken) (rest : List ℕ) → ◌≡◌ {A = Read} (Ok None) (Ok (Some (t, rest))) → ⊥
not_none t rest e = cc

not_some : (x : PlainToken × List ℕ) → ◌≡◌ {A = Read} (Ok (Some x)) (Ok None) → ⊥
not_some x e = cc

abbrev pub given : List ℕ → PlainSum × List ℕ → Read
given word s = Ok (Some (Operand word s.0, s.1))

module _ (word : List ℕ) (all : list_all is_word word ≡ true) (t : PlainToken) (after : List ℕ) where
  end_found : token_of word [] ≡ Ok (Some (t, after)) → TokenAt (word ++ []) t after
  end_found e =
      ⊎_elim
      (λ none. absurd (not_none t after none.1))
      (λ some.
      let pair = same_token (Run word, []) t after some.1 in
      record { word = word; is = ap (λ (l : List ℕ). word ++ l) pair.1; spelled = subst (λ t. SpellsToken word t after) pair.0 (run (some_length word some.0) all (ap (front_is is_word) (sym pair.1)) (ap (front_is (λ b. b == 64)) (sym pair.1))) })
      (by_test (is_empty word) (Ok None) (Ok (Some (Run word, []))) (Ok (Some (t, after))) e)

  more_found : (b : ℕ) (bs : List ℕ) → EndsWord (b ∷ bs) → front_is is_blank (word ++ (b ∷ bs)) ≡ false → token_of word (b ∷ bs) ≡ Ok (Some (t, after)) → TokenAt (word ++ (b ∷ bs)) t after
  more_found b bs stops front e =
      ⊎_elim
      (λ at_sign.
      let got = bind_ok (operand_at bs) (given word) (Some (t, after)) at_sign.1 in
      let pair = same_token (Operand word got.0.0, got.0.1) t after got.2 in
      let at = operand_found bs got.0.0 got.0.1 got.1 in
      record {
        word = word ++ (codes "@" ++ at.0.word);
        is = ap (λ (c : ℕ). word ++ (c ∷ bs)) (eqb-true b 64 at_sign.0) ∙ ap (λ (l : List ℕ). word ++ (codes "@" ++ l)) (at.0.is ∙ ap (λ (l : List ℕ). at.0.word ++ l) pair.1) ∙ sym (append_assoc word (codes "@" ++ at.0.word) after);
        spelled = subst (λ t. SpellsToken (word ++ (codes "@" ++ at.0.word)) t after) pair.0 (operand refl all at.0.spelled (ap (front_is is_word) (sym pair.1) ∙ at.1));
      })
      (λ other. ⊎_elim
      (λ none.
      let empty = empty_is word none.0 in
      let pair = same_token (Sign b, bs) t after none.1 in
      record { word = b ∷ []; is = ap (λ (l : List ℕ). l ++ (b ∷ bs)) empty ∙ ap (λ (l : List ℕ). b ∷ l) pair.1; spelled = subst (λ t. SpellsToken (b ∷ []) t after) pair.0 (sign (ap (λ (l : List ℕ). front_is is_blank (l ++ (b ∷ bs))) (sym empty) ∙ front) stops other.0) })
      (λ some.
      let pair = same_token (Run word, b ∷ bs) t after some.1 in
      record { word = word; is = ap (λ (l : List ℕ). word ++ l) pair.1; spelled = subst (λ t. SpellsToken word t after) pair.0 (run (some_length word some.0) all (ap (front_is is_word) (sym pair.1) ∙ stops) (ap (front_is (λ b. b == 64)) (sym pair.1) ∙ other.0)) })
      (by_test (is_empty word) (Ok (Some (Sign b, bs))) (Ok (Some (Run word, b ∷ bs))) (Ok (Some (t, after))) other.1))
      (by_test (b == 64) (operand_at bs >>= given word) (cond (is_empty word) (Ok (Some (Sign b, bs))) (Ok (Some (Run word, b ∷ bs)))) (Ok (Some (t, after))) e)

read_found : (word behind : List ℕ) → list_all is_word word ≡ true → EndsWord behind → front_is is_blank (word ++ behind) ≡ false → (t : PlainToken) (after : List ℕ) → token_of word behind ≡ Ok (Some (t, after)) → TokenAt (word ++ behind) t after
read_found word [] all stops front t after e = end_found word all t after e
read_found word (b ∷ bs) all stops front t after e = more_found word all t after b bs stops front e

pub token_found : (text : List ℕ) → front_is is_blank text ≡ false → (t : PlainToken) (after : List ℕ) → token_at text ≡ Ok (Some (t, after)) → TokenAt text t after
unfolding token_at
token_found text front t after e =
    let whole = word_is text in
    let at = read_found (front_word text) (behind_word text) (word_all text) (word_ends text) (ap (front_is is_blank) (sym whole) ∙ front) t after e in
    record { word = at.word; is = whole ∙ at.is; spelled = at.spelled }

-- ---- where none stands

none_left : (word behind : List ℕ) → token_of word behind ≡ Ok None → word ++ behind ≡ []
none_left word [] e =
    ⊎_elim
    (λ none. append-nil word ∙ empty_is word none.0)
    (λ some. absurd (not_some (Run word, []) some.1))
    (by_test (is_empty word) (Ok None) (Ok (Some (Run word, []))) (Ok None) e)
none_left word (b ∷ bs) e =
    ⊎_elim
    (λ at_sign.
    let got = bind_ok (operand_at bs) (given word) None at_sign.1 in
    absurd (not_some (Operand word got.0.0, got.0.1) got.2))
    (λ other. ⊎_elim
    (λ none. absurd (not_some (Sign b, bs) none.1))
    (λ some. absurd (not_some (Run word, b ∷ bs) some.1))
    (by_test (is_empty word) (Ok (Some (Sign b, bs))) (Ok (Some (Run word, b ∷ bs))) (Ok None) other.1))
    (by_test (b == 64) (operand_at bs >>= given word) (cond (is_empty word) (Ok (Some (Sign b, bs))) (Ok (Some (Run word, b ∷ bs)))) (Ok None) e)

token_none : (text : List ℕ) → token_at text ≡ Ok None → text ≡ []
unfolding token_at
token_none text e = word_is text ∙ none_left (front_word text) (behind_word text) e

-- ---- a token that is spelled

token_some : {word rest : List ℕ} {t : PlainToken} → SpellsToken word t rest → 0 < length word
token_some (run some all ends no_sign) = some
token_some (operand {word = w} {sum = s} split all spelled ends) = omega (arith, ap length split, length-append w (codes "@" ++ s))
token_some (sign blank word no_sign) = omega arith

word_front : (word rest : List ℕ) → 0 < length word → list_all is_word word ≡ true → front_is is_blank (word ++ rest) ≡ false
word_front [] rest some all = absurd (omega arith)
word_front (c ∷ word) rest some all = word_blank c (and_parts (is_word c) (list_all is_word word) all).0

pub at_front : (word rest : List ℕ) → list_all is_word word ≡ true → front_is is_blank (word ++ (64 ∷ rest)) ≡ false
at_front [] rest all = refl
at_front (c ∷ word) rest all = word_blank c (and_parts (is_word c) (list_all is_word word) all).0

pub token_front : {word rest : List ℕ} {t : PlainToken} → SpellsToken word t rest → front_is is_blank (word ++ rest) ≡ false
token_front (run {text = w} {rest = r} some all ends no_sign) = word_front w r some all
token_front (operand {word = w} {sum = s} {rest = r} split all spelled ends) = ap (λ (l : List ℕ). front_is is_blank (l ++ r)) split ∙ ap (front_is is_blank) (append_assoc w (codes "@" ++ s) r) ∙ at_front w (s ++ r) all
token_front (sign blank word no_sign) = blank

pub read_as : (word behind : List ℕ) (r : Read) → list_all is_word word ≡ true → EndsWord behind → token_of word behind ≡ r → token_at (word ++ behind) ≡ r
unfolding token_at
read_as word behind r all ends e = rw (front_word_is word behind all ends, behind_word_is word behind all ends) e

run_read : (word behind : List ℕ) → 0 < length word → front_is (λ b. b == 64) behind ≡ false → token_of word behind ≡ Ok (Some (Run word, behind))
run_read word [] some no_sign = rw (some_empty word some) refl
run_read word (b ∷ bs) some no_sign = rw (no_sign, some_empty word some) refl

pub token_only : {word rest : List ℕ} {t : PlainToken} → SpellsToken word t rest → token_at (word ++ rest) ≡ Ok (Some (t, rest))
token_only (run {text = w} {rest = r} some all ends no_sign) = read_as w r _ all ends (run_read w r some no_sign)
token_only (operand {word = w} {sum = s} {rest = r} split all spelled ends) =
    ap (λ (l : List ℕ). token_at (l ++ r)) split ∙ ap token_at (append_assoc w (codes "@" ++ s) r)
    ∙ read_as w (codes "@" ++ (s ++ r)) _ all refl (rw (operand_only spelled r ends) refl)
token_only (sign {rest = r} {b = b} blank word no_sign) = read_as [] (b ∷ r) _ refl word (rw no_sign refl)

-- ---- all tokens

pub takes_token : Takes token_at
takes_token = record {
  stops = no_token;
  shorter = λ text t behind front e.
      let at = token_found text front t behind e in
      let some = token_some at.spelled in
      omega (arith, ap length at.is, length-append at.word behind, some);
}

pub tokens_found : {text rest : List ℕ} {ts : List PlainToken} → Chain token_at text ts rest → SpellsTokens text ts
tokens_found (stop {text = text} is e last) =
    let b = blanks_of text in
    let whole : text ≡ b.0 = b.1 ∙ ap (λ (l : List ℕ). b.0 ++ l) (token_none (skip_blanks text) is) ∙ append-nil b.0 in
    subst (SpellsTokens text) (sym e) (no_tokens (ap (list_all is_blank) whole ∙ b.2))
tokens_found (link {text = text} {behind = r} {x = t} is more e) =
    let b = blanks_of text in
    let at = token_found (skip_blanks text) (skipped_all text) t r is in
    subst (SpellsTokens text) (sym e) (token b.0 (b.1 ∙ ap (λ (l : List ℕ). b.0 ++ l) at.is) b.2 at.spelled (tokens_found more))

pub blank_skipped : (text : List ℕ) → AreBlanks text → skip_blanks text ≡ []
blank_skipped text all = ap skip_blanks (sym (append-nil text)) ∙ skip_is text [] all refl

pub tokens_only : {text : List ℕ} {ts : List PlainToken} → SpellsTokens text ts → Chain token_at text ts []
tokens_only (no_tokens {text = text} all) = let nothing = blank_skipped text all in stop (ap token_at nothing ∙ no_token) refl (sym nothing)
tokens_only (token blanks {text = text} {word = w} {rest = r} split all spelled more) =
    link (ap (λ (l : List ℕ). token_at (skip_blanks l)) split ∙ ap token_at (skip_is blanks (w ++ r) all (token_front spelled)) ∙ token_only spelled) (tokens_only more) refl
