-- What loops over items keep.
use Rattle.std.proofs.Common.{◌≡◌, ℕ, zero, suc, ◌<◌, ◌≤◌, List, [], ◌∷◌, ◌++◌, length, Option, Some, None, Result, Ok, Err, refl, sym, ap, ◌∙◌, append_assoc, arith}
use Rattle.std.proofs.lemmas.List.{append-nil, nil_from_length}
use Rattle.asm_source.specs.declared.flaw.Flaw.{Flaw}
use Rattle.asm_source.specs.declared.flaw.Flaw.TheVariants as flaws
use Rattle.asm_source.specs.Bytes.{skip_blanks}
use Rattle.asm_source.specs.Sums.{◌>>=◌, Reading}
use Rattle.asm_source.specs.Items.{Item, on_item, items, all_items}
use Rattle.asm_source.specs.Gives.{Fails, with_front}

-- of the items of a text, those in front were read, and the rest is still to read
pub record Along {A : Type 0} (item : Item A) (text : List ℕ) (front : List A) (rest : List ℕ) : Type 0 where
  pub count : ℕ
  pub enough : length rest ≤ count
  pub same : with_front front (items item count rest) ≡ all_items item text

none_first : {A : Type 0} (r : Reading (List A)) → with_front [] r ≡ r
none_first (Ok x) = refl
none_first (Err e) = refl

pub starts : {A : Type 0} (item : Item A) (text : List ℕ) → Along item text [] text
starts item text = record { count = length text; enough = omega arith; same = none_first (all_items item text) }

regroup : {A : Type 0} (front : List A) (a : A) (r : Reading (List A)) → with_front front (r >>= λ all. Ok (a ∷ all.0, all.1)) ≡ with_front (front ++ a ∷ []) r
regroup {A} front a (Ok x) = ap (λ (l : List A). Ok (l, x.1)) (simp append_assoc)
regroup front a (Err e) = refl

-- one turn
turn : {A : Type 0} (item : Item A) (n : ℕ) (rest : List ℕ) (r : Result (Option (A × List ℕ)) Flaw) → item (skip_blanks rest) ≡ r → items item (suc n) rest ≡ (r >>= on_item (items item n) (skip_blanks rest))
unfolding items
turn {A} item n rest r e = ap (λ (q : Result (Option (A × List ℕ)) Flaw). q >>= on_item (items item n) (skip_blanks rest)) e

-- with no turn left nothing is left to read
spent : {A : Type 0} (item : Item A) (rest : List ℕ) → item [] ≡ Ok None → length rest ≤ zero → items item zero rest ≡ Ok ([], skip_blanks rest)
unfolding items
spent item [] e le = refl
spent item (b ∷ bs) e le = absurd (omega arith)

module _ {A : Type 0} (item : Item A) (stops : item [] ≡ Ok None) (text : List ℕ) (front : List A) (rest : List ℕ) (along : Along item text front rest) where
  blank_end : length rest ≤ zero → (r : Result (Option (A × List ℕ)) Flaw) → item (skip_blanks rest) ≡ r → r ≡ Ok None
  blank_end le r e = let nothing : rest ≡ [] = nil_from_length rest (omega arith) in sym e ∙ ap (λ (l : List ℕ). item (skip_blanks l)) nothing ∙ stops

  pub goes_on : (a : A) (after : List ℕ) → item (skip_blanks rest) ≡ Ok (Some (a, after)) → length after < length rest → Along item text (front ++ a ∷ []) after
  goes_on a after e lt = go along.count along.enough along.same
    where
      go : (n : ℕ) → length rest ≤ n → with_front front (items item n rest) ≡ all_items item text → Along item text (front ++ a ∷ []) after
      go zero le same = absurd (omega arith)
      go (suc n) le same = record { count = n; enough = omega arith; same = sym (regroup front a (items item n after)) ∙ ap (with_front front) (sym (turn item n rest (Ok (Some (a, after))) e)) ∙ same }

  pub ends : item (skip_blanks rest) ≡ Ok None → all_items item text ≡ Ok (front, skip_blanks rest)
  ends e = go along.count along.enough along.same
    where
      go : (n : ℕ) → length rest ≤ n → with_front front (items item n rest) ≡ all_items item text → all_items item text ≡ Ok (front, skip_blanks rest)
      go zero le same = sym same ∙ ap (with_front front) (spent item rest stops le) ∙ ap (λ (l : List A). Ok (l, skip_blanks rest)) (append-nil front)
      go (suc n) le same = sym same ∙ ap (with_front front) (turn item n rest (Ok None) e) ∙ ap (λ (l : List A). Ok (l, skip_blanks rest)) (append-nil front)

  fails_with : (e : Flaw) → item (skip_blanks rest) ≡ Err e → all_items item text ≡ Err e
  fails_with e h = go along.count along.enough along.same
    where
      go : (n : ℕ) → length rest ≤ n → with_front front (items item n rest) ≡ all_items item text → all_items item text ≡ Err e
      go zero le same = absurd (let f = blank_end le (Err e) h in cc)
      go (suc n) le same = sym same ∙ ap (with_front front) (turn item n rest (Err e) h)

  pub fails : (e : Flaw) → Fails e (item (skip_blanks rest)) → Fails e (all_items item text)
  fails flaws.NoMemory h = tt
  fails flaws.BadLine h = fails_with flaws.BadLine h
  fails flaws.UnknownDirective h = fails_with flaws.UnknownDirective h
  fails flaws.BadExpression h = fails_with flaws.BadExpression h
