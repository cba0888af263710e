-- The lines of items that changed, and the row of values that follows them.
use Rattle.std.proofs.Common.{◌≡◌, ℕ, suc, ◌+◌, ◌-◌, ◌<◌, ◌≤◌, List, [], ◌∷◌, ◌++◌, length, take, drop, get_or, set, min, refl, sym, ap, ◌∙◌, subst, arith, Option, Result, Ok, length-take, length-append, append_assoc, add-one}
use Rattle.std.specs.List.{flat_map, zip}
use Rattle.std.proofs.Math.Seq.{drop-cons}
use Rattle.std.proofs.lemmas.List.{take_more, set_at, get_or-append_right}
use Rattle.std.proofs.lemmas.Slice.Zip.{length-zip}
use Rattle.lisa_io.specs.Contents.{Puts}
use Rattle.lisa_engine.specs.Text.{changed_line, changed_items}
use Rattle.lisa_engine.specs.declared.parts.Item.{Item}
use Rattle.lisa_engine.proofs.Lines.{zip_at, zip_more, zip_whole}
use Rattle.lisa_engine.proofs.Places.{found_at}

front_long : (i : ℕ) (xs : List ℕ) → i < length xs → length (take i xs) ≡ i
front_long i xs within = omega (arith, length-take i xs)

-- one more value is written over
pub overwritten : (now before : List ℕ) (i : ℕ) → i < length now → i < length before → set (take i now ++ drop i before) i (get_or now i 0) ≡ take (i + 1) now ++ drop (i + 1) before
overwritten now before i in_now in_before =
    let opened : drop i before ≡ get_or before i 0 ∷ drop (i + 1) before = rw add-one (drop-cons before i 0 in_before) in
    ap (λ t. set (take i now ++ t) i (get_or now i 0)) opened
    ∙ set_at (take i now) (get_or before i 0) (drop (i + 1) before) (get_or now i 0) i (front_long i now in_now)
    ∙ sym (append_assoc (take i now) (get_or now i 0 ∷ []) (drop (i + 1) before))
    ∙ ap (λ t. t ++ drop (i + 1) before) (sym (take_more now i 0 in_now))

-- what isn't written over yet is as before
pub still_before : (now before : List ℕ) (i : ℕ) → i < length now → i < length before → get_or (take i now ++ drop i before) i 0 ≡ get_or before i 0
still_before now before i in_now in_before =
    let opened : drop i before ≡ get_or before i 0 ∷ drop (i + 1) before = rw add-one (drop-cons before i 0 in_before) in
    get_or-append_right (take i now) (drop i before) i i 0 (front_long i now in_now) (omega arith)
    ∙ ap (λ k. get_or (drop i before) k 0) {x = i - i} {y = 0} (omega arith) ∙ ap (λ t. get_or t 0 0) opened

module _ {T E : Type 0} (items : List Item) (before now row : List ℕ) (i : ℕ) (item : Item) (value : ℕ) (u : T) (a b c : Option (List ℕ)) (x y z : ℕ) (r : Result T E)
    (within : i < length items) (long : length before ≡ length items) (many : length now ≡ length items) (is : item ≡ get_or items i item) (is_now : value ≡ get_or now i 0)
    (so_far : row ≡ take i now ++ drop i before) where
  pub items_more : Puts {T = T} {E = E} a b x y (Ok u) (flat_map changed_line (take i (zip items (zip before now)))) → Puts b c y z r (changed_line (item, (get_or row i 0, value)))
      → Puts a c x z r (flat_map changed_line (take (i + 1) (zip items (zip before now))))
  items_more p q =
      let in_before : i < length before = omega (arith, long) in
      let in_now : i < length now = omega (arith, many) in
      let is_before : get_or row i 0 ≡ get_or before i 0 = ap (λ t. get_or t i 0) so_far ∙ still_before now before i in_now in_before in
      let pair : (get_or row i 0, value) ≡ get_or (zip before now) i (get_or row i 0, value)
      = sym (zip_at before now i (get_or row i 0) value in_before (omega (arith, long, many)) (found_at before i 0 (get_or row i 0) in_before is_before) (found_at now i 0 value in_now is_now)) in
      zip_more changed_line items (zip before now) i item (get_or row i 0, value) u a b c x y z r within (omega (arith, length-zip before now, long, many)) is pair p q

  pub row_more : set row i value ≡ take (i + 1) now ++ drop (i + 1) before
  row_more = (λ j. set (so_far j) i (is_now j)) ∙ overwritten now before i (omega (arith, many)) (omega (arith, long))

pub items_whole : {T E : Type 0} (items : List Item) (before now : List ℕ) (i : ℕ) (a b : Option (List ℕ)) (x y : ℕ) (r : Result T E)
    → length items ≤ i → Puts a b x y r (flat_map changed_line (take i (zip items (zip before now)))) → Puts a b x y r (changed_items items before now)
items_whole items before now i a b x y r all p = zip_whole changed_line items (zip before now) i a b x y r all p
