-- All items at the front of a text, as a chain of them.
use Rattle.std.proofs.Common.{◌≡◌, ℕ, zero, suc, ◌<◌, ◌≤◌, false, List, [], ◌∷◌, ◌++◌, length, Option, Some, None, Ok, sym, ap, ◌∙◌, append_assoc, arith}
use Rattle.std.specs.List.{prefix_len}
use Rattle.std.proofs.lemmas.List.{append-nil, length-drop}
use Rattle.asm_source.specs.Bytes.{is_blank, front_is, skip_blanks}
use Rattle.asm_source.specs.Sums.{Reading}
use Rattle.asm_source.specs.Items.{Item, on_item, items, all_items}
use Rattle.asm_source.proofs.Loops.{Along, starts, goes_on, ends}
use Rattle.source_grammar.proofs.Runs.{bind_ok, skipped_all}
use Rattle.source_grammar.proofs.SumTexts.{same_pair}

-- items one behind the other, and the text where none stands any more
pub data Chain {A : Type 0} (item : Item A) : List ℕ → List A → List ℕ → Type 0 where
  stop : {text rest : List ℕ} {xs : List A} → item (skip_blanks text) ≡ Ok None → xs ≡ [] → rest ≡ skip_blanks text → Chain item text xs rest
  link : {text behind rest : List ℕ} {x : A} {xs more : List A} → item (skip_blanks text) ≡ Ok (Some (x, behind)) → Chain item behind more rest → xs ≡ x ∷ more → Chain item text xs rest

-- what reads an item takes something of the text
pub record Takes {A : Type 0} (item : Item A) : Type 0 where
  pub stops : item [] ≡ Ok None
  pub shorter : (text : List ℕ) (x : A) (behind : List ℕ) → front_is is_blank text ≡ false → item text ≡ Ok (Some (x, behind)) → length behind < length text

skipped_within : (text : List ℕ) → length (skip_blanks text) ≤ length text
skipped_within text = omega (arith, length-drop (prefix_len is_blank text) text)

module _ {A : Type 0} (item : Item A) (takes : Takes item) where
  pub less : (text : List ℕ) (x : A) (behind : List ℕ) → item (skip_blanks text) ≡ Ok (Some (x, behind)) → length behind < length text
  less text x behind e = let s = takes.shorter (skip_blanks text) x behind (skipped_all text) e in omega (arith, s, skipped_within text)

  abbrev onto : A → List A × List ℕ → Reading (List A)
  onto x all = Ok (x ∷ all.0, all.1)

  turn_found : (n : ℕ) (text : List ℕ) (xs : List A) (rest : List ℕ) (o : Option (A × List ℕ)) → length text ≤ suc n → ((behind : List ℕ) (ys : List A) → length behind ≤ n → items item n behind ≡ Ok (ys, rest) → Chain item behind ys rest)
      → item (skip_blanks text) ≡ Ok o → on_item (items item n) (skip_blanks text) o ≡ Ok (xs, rest) → Chain item text xs rest
  turn_found n text xs rest None le more is e = let pair = same_pair ([], skip_blanks text) xs rest e in stop is (sym pair.0) (sym pair.1)
  turn_found n text xs rest (Some x) le more is e =
      let got = bind_ok (items item n x.1) (onto x.0) (xs, rest) e in
      let pair = same_pair (x.0 ∷ got.0.0, got.0.1) xs rest got.2 in
      let within : length x.1 ≤ n = (let l = less text x.0 x.1 is in omega arith) in
      link is (more x.1 got.0.0 within (got.1 ∙ ap (λ (l : List ℕ). Ok (got.0.0, l)) pair.1)) (sym pair.0)

  chain_found : (n : ℕ) (text : List ℕ) (xs : List A) (rest : List ℕ) → length text ≤ n → items item n text ≡ Ok (xs, rest) → Chain item text xs rest
  unfolding items
  chain_found zero [] xs rest le e = let pair = same_pair ([], []) xs rest e in stop takes.stops (sym pair.0) (sym pair.1)
  chain_found zero (b ∷ bs) xs rest le e = absurd (omega arith)
  chain_found (suc n) text xs rest le e =
      let got = bind_ok (item (skip_blanks text)) (on_item (items item n) (skip_blanks text)) (xs, rest) e in
      turn_found n text xs rest got.0 le (λ behind ys within is. chain_found n behind ys rest within is) got.1 got.2

  chain_only : {text rest : List ℕ} {xs : List A} → Chain item text xs rest → (whole : List ℕ) (front : List A) → Along item whole front text → all_items item whole ≡ Ok (front ++ xs, rest)
  chain_only (stop {text = t} {rest = r} none e last) whole front along =
      ends item takes.stops whole front t along none ∙ ap (λ (l : List ℕ). Ok (front, l)) (sym last) ∙ ap (λ (l : List A). Ok (l, r)) (sym (ap (λ (l : List A). front ++ l) e ∙ append-nil front))
  chain_only (link {text = t} {behind = b} {rest = r} {x = x} {more = m} some more e) whole front along =
      chain_only more whole (front ++ x ∷ []) (goes_on item takes.stops whole front t along x b some (less t x b some))
      ∙ ap (λ (l : List A). Ok (l, r)) (append_assoc front (x ∷ []) m ∙ ap (λ (l : List A). front ++ l) (sym e))

  pub all_found : (text : List ℕ) (xs : List A) (rest : List ℕ) → all_items item text ≡ Ok (xs, rest) → Chain item text xs rest
  all_found text xs rest e = chain_found (length text) text xs rest (omega arith) e

  pub all_only : {text rest : List ℕ} {xs : List A} → Chain item text xs rest → all_items item text ≡ Ok (xs, rest)
  all_only {text} {rest} {xs} chain = chain_only chain text [] (starts item text)
