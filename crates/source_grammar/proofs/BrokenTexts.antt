-- What is read of tokens and labels where an item fails.
use Rattle.std.proofs.Common.{◌≡◌, ℕ, zero, suc, ⊎_elim, true, cond, not, List, [], ◌∷◌, ◌++◌, length, Option, Some, None, Result, Ok, Err, refl, ap, ◌∙◌}
use Rattle.std.specs.Prelude.{◌&&◌, ◌==◌, codes}
use Rattle.std.specs.List.{list_all}
use Rattle.std.proofs.lemmas.Bool.{eqb-true}
use Rattle.asm_source.specs.declared.flaw.Flaw.{Flaw}
use Rattle.asm_source.specs.declared.flaw.Flaw.TheVariants as flaws
use Rattle.asm_source.specs.Bytes.{is_word, is_name, skip_blanks, front_word, behind_word}
use Rattle.asm_source.specs.Plain.{PlainSum, PlainToken, Run, Sign, Operand}
use Rattle.asm_source.specs.Sums.{◌>>=◌, Reading, operand_at}
use Rattle.asm_source.specs.Items.{Item, on_item, items, all_items}
use Rattle.asm_source.specs.Parts.{is_empty, named_label, label_of, label_at, token_of, token_at}
use Rattle.asm_source.proofs.Loops.{Along, starts, goes_on, fails}
use Rattle.source_grammar.specs.Refusals.{BreaksTokens, broken_here, broken_behind}
use Rattle.source_grammar.proofs.Runs.{by_test, bind_err, other_flaw, not_ok, word_is, word_all, blanks_of, skipped_all, skip_is}
use Rattle.source_grammar.proofs.Chains.{Takes, less}
use Rattle.source_grammar.proofs.TokenTexts.{token_found, token_front, token_only, given, read_as, at_front}
use Rattle.source_grammar.proofs.BrokenSums.{operand_err, no_sum, sum_none}

-- ---- items

-- items one behind the other, and then one that fails
pub data Broken {A : Type 0} (item : Item A) (e : Flaw) : List ℕ → Type 0 where
  fails_here : {text : List ℕ} → item (skip_blanks text) ≡ Err e → Broken item e text
  fails_behind : {text behind : List ℕ} {x : A} → item (skip_blanks text) ≡ Ok (Some (x, behind)) → Broken item e behind → Broken item e text

abbrev added_to : {A : Type 0} → A → List A × List ℕ → Reading (List A)
added_to x all = Ok (x ∷ all.0, all.1)

module _ {A : Type 0} (item : Item A) where
  turn_broken : (n : ℕ) (text : List ℕ) (e : Flaw) (o : Option (A × List ℕ)) → ((behind : List ℕ) → items item n behind ≡ Err e → Broken item e behind) → item (skip_blanks text) ≡ Ok o → on_item (items item n) (skip_blanks text) o ≡ Err e → Broken item e text
  turn_broken n text e None more is h = absurd (not_ok ([], skip_blanks text) e h)
  turn_broken n text e (Some x) more is h = ⊎_elim (λ bad. fails_behind is (more x.1 bad)) (λ got. absurd (not_ok (x.0 ∷ got.0.0, got.0.1) e got.2)) (bind_err (items item n x.1) (added_to x.0) e h)

  items_broken : (n : ℕ) (text : List ℕ) (e : Flaw) → items item n text ≡ Err e → Broken item e text
  unfolding items
  items_broken zero text e h = absurd (not_ok ([], text) e h)
  items_broken (suc n) text e h =
      ⊎_elim
      (λ bad. fails_here bad)
      (λ got. turn_broken n text e got.0 (λ behind. items_broken n behind e) got.1 got.2)
      (bind_err (item (skip_blanks text)) (on_item (items item n) (skip_blanks text)) e h)

  pub broken_found : (text : List ℕ) (e : Flaw) → all_items item text ≡ Err e → Broken item e text
  broken_found text e h = items_broken (length text) text e h

module _ {A : Type 0} (item : Item A) (takes : Takes item) where
  broken_along : {text : List ℕ} → Broken item flaws.BadExpression text → (whole : List ℕ) (front : List A) → Along item whole front text → all_items item whole ≡ Err flaws.BadExpression
  broken_along (fails_here {text = t} h) whole front along = fails item takes.stops whole front t along flaws.BadExpression h
  broken_along (fails_behind {text = t} {behind = b} {x = x} is more) whole front along = broken_along more whole (front ++ x ∷ []) (goes_on item takes.stops whole front t along x b is (less item takes t x b is))

  pub broken_only : {text : List ℕ} → Broken item flaws.BadExpression text → all_items item text ≡ Err flaws.BadExpression
  broken_only {text} b = broken_along b text [] (starts item text)

-- ---- tokens

abbrev Token : Type 0
Token = Result (Option (PlainToken × List ℕ)) Flaw

-- an `@` behind a word, and no operand behind it
record BadAt (text : List ℕ) (e : Flaw) : Type 0 where
  word : List ℕ
  rest : List ℕ
  is : text ≡ word ++ (codes "@" ++ rest)
  all : list_all is_word word ≡ true
  bad : operand_at rest ≡ Err e

of_broken : (word behind : List ℕ) (e : Flaw) → list_all is_word word ≡ true → token_of word behind ≡ Err e → BadAt (word ++ behind) e
of_broken word [] e all h =
    absurd
    (⊎_elim (λ none. not_ok None e none.1) (λ some. not_ok (Some (Run word, [])) e some.1) (by_test (is_empty word) (Ok None) (Ok (Some (Run word, []))) (Err e) h))
of_broken word (b ∷ bs) e all h =
    ⊎_elim
    (λ at_sign. ⊎_elim
    (λ bad. record { word = word; rest = bs; is = ap (λ (c : ℕ). word ++ (c ∷ bs)) (eqb-true b 64 at_sign.0); all = all; bad = bad })
    (λ got. absurd (not_ok (Some (Operand word got.0.0, got.0.1)) e got.2))
    (bind_err (operand_at bs) (given word) e at_sign.1))
    (λ other. absurd
    (⊎_elim (λ none. not_ok (Some (Sign b, bs)) e none.1) (λ some. not_ok (Some (Run word, b ∷ bs)) e some.1) (by_test (is_empty word) (Ok (Some (Sign b, bs))) (Ok (Some (Run word, b ∷ bs))) (Err e) other.1)))
    (by_test (b == 64) (operand_at bs >>= given word) (cond (is_empty word) (Ok (Some (Sign b, bs))) (Ok (Some (Run word, b ∷ bs)))) (Err e) h)

token_broken : (text : List ℕ) (e : Flaw) → token_at text ≡ Err e → BadAt text e
unfolding token_at
token_broken text e h =
    let at = of_broken (front_word text) (behind_word text) e (word_all text) h in
    record { word = at.word; rest = at.rest; is = word_is text ∙ at.is; all = at.all; bad = at.bad }

pub tokens_broken : {e : Flaw} {text : List ℕ} → Broken token_at e text → (e ≡ flaws.BadExpression) × BreaksTokens text
tokens_broken {e = e} (fails_here {text = text} h) =
    let b = blanks_of text in
    let at = token_broken (skip_blanks text) e h in
    (operand_err at.rest e at.bad, broken_here b.0 at.word (b.1 ∙ ap (λ (l : List ℕ). b.0 ++ l) at.is) b.2 at.all (no_sum at.rest e at.bad))
tokens_broken (fails_behind {text = text} {behind = r} {x = t} is more) =
    let b = blanks_of text in
    let at = token_found (skip_blanks text) (skipped_all text) t r is in
    let later = tokens_broken more in
    (later.0, broken_behind b.0 (b.1 ∙ ap (λ (l : List ℕ). b.0 ++ l) at.is) b.2 at.spelled later.1)

pub tokens_break : {text : List ℕ} → BreaksTokens text → Broken token_at flaws.BadExpression text
tokens_break (broken_here blanks word {rest = r} split all words none) =
    fails_here
    (ap (λ (l : List ℕ). token_at (skip_blanks l)) split ∙ ap token_at (skip_is blanks (word ++ (codes "@" ++ r)) all (at_front word r words))
    ∙ read_as word (codes "@" ++ r) (Err flaws.BadExpression) words refl (ap (λ (q : Reading PlainSum). q >>= given word) (sum_none r none)))
tokens_break (broken_behind blanks {word = w} {rest = r} split all spelled more) =
    fails_behind (ap (λ (l : List ℕ). token_at (skip_blanks l)) split ∙ ap token_at (skip_is blanks (w ++ r) all (token_front spelled)) ∙ token_only spelled) (tokens_break more)

-- ---- labels

abbrev Label : Type 0
Label = Result (Option (List ℕ × List ℕ)) Flaw

label_of_err : (word behind : List ℕ) (e : Flaw) → label_of word behind ≡ Err e → e ≡ flaws.BadLine
label_of_err word [] e h = absurd (not_ok None e h)
label_of_err word (b ∷ bs) e h =
    ⊎_elim
    (λ colon. ⊎_elim
    (λ named. absurd (not_ok (Some (word, bs)) e named.1))
    (λ bad. other_flaw _ e bad.1)
    (by_test (is_name word) (Ok (Some (word, bs))) (Err flaws.BadLine) (Err e) colon.1))
    (λ none. absurd (not_ok None e none.1))
    (by_test (b == 58 && not (is_empty word)) (named_label word bs) (Ok None) (Err e) h)

label_err : (text : List ℕ) (e : Flaw) → label_at text ≡ Err e → e ≡ flaws.BadLine
unfolding label_at
label_err text e h = label_of_err (front_word text) (behind_word text) e h

pub labels_broken : {e : Flaw} {text : List ℕ} → Broken label_at e text → e ≡ flaws.BadLine
labels_broken {e = e} (fails_here {text = text} h) = label_err (skip_blanks text) e h
labels_broken (fails_behind is more) = labels_broken more
