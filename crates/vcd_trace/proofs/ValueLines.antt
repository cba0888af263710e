-- The lines of values, item by item.
use Rattle.std.proofs.Common.{◌≡◌, ℕ, ◌+◌, ◌<◌, ◌≤◌, List, [], ◌∷◌, ◌++◌, length, take, drop, get_or, set, sym, ap, ◌∙◌, arith, Option, Result, Ok, Bool, cond}
use Rattle.std.specs.Prelude.{codes}
use Rattle.std.proofs.lemmas.Bool.{eq-eqb}
use Rattle.std.specs.List.{flat_map, zip, enumerate_from}
use Rattle.std.proofs.lemmas.Slice.Zip.{length-zip}
use Rattle.std.proofs.lemmas.List.FromFn.{get_or-enumerate_from, length-enumerate_from}
use Rattle.lisa_io.specs.Contents.{Puts}
use Rattle.lisa_engine.specs.declared.parts.Item.{Item}
use Rattle.lisa_engine.proofs.Lines.{zip_at, zip_more, zip_whole}
use Rattle.lisa_engine.proofs.Places.{found_at}
use Rattle.lisa_engine.proofs.ChangedItems.{still_before, overwritten}
use Rattle.vcd_trace.specs.VcdText.{binary, item_code, value_change, value_line, value_lines, changed_value, changed_values}

-- an element with its place
placed_at : {V : Type 0} (vs : List V) (i : ℕ) (v : V) → i < length vs → v ≡ get_or vs i v → (i, v) ≡ get_or (enumerate_from 0 vs) i (i, v)
placed_at vs i v within is = sym (get_or-enumerate_from 0 vs i (i, v) within ∙ (λ j. (none j, sym is j)))
  where
    none : 0 + i ≡ i
    none = omega arith

module _ {T E : Type 0} (items : List Item) (values : List ℕ) (i : ℕ) (item : Item) (value : ℕ) (u : T) (a b c : Option (List ℕ)) (x y z : ℕ) (r : Result T E)
    (within : i < length items) (many : length values ≡ length items) (is : item ≡ get_or items i item) (is_value : value ≡ get_or values i 0) where
  pub values_more : Puts {T = T} {E = E} a b x y (Ok u) (flat_map value_line (take i (zip items (enumerate_from 0 values)))) → Puts b c y z r (value_line (item, (i, value)))
      → Puts a c x z r (flat_map value_line (take (i + 1) (zip items (enumerate_from 0 values))))
  values_more p q =
      let here : i < length values = omega (arith, many) in
      zip_more value_line items (enumerate_from 0 values) i item (i, value) u a b c x y z r within (length-enumerate_from 0 values ∙ many) is
      (placed_at values i value here (found_at values i 0 value here is_value)) p q

pub values_whole : {T E : Type 0} (items : List Item) (values : List ℕ) (i : ℕ) (a b : Option (List ℕ)) (x y : ℕ) (r : Result T E)
    → length items ≤ i → Puts a b x y r (flat_map value_line (take i (zip items (enumerate_from 0 values)))) → Puts a b x y r (value_lines items values)
values_whole items values i a b x y r all p = zip_whole value_line items (enumerate_from 0 values) i a b x y r all p

module _ {T E : Type 0} (items : List Item) (before now row : List ℕ) (i : ℕ) (item : Item) (value : ℕ) (u : T) (a b c : Option (List ℕ)) (x y z : ℕ) (r : Result T E)
    (within : i < length items) (long : length before ≡ length items) (many : length now ≡ length items) (is : item ≡ get_or items i item) (is_now : value ≡ get_or now i 0)
    (so_far : row ≡ take i now ++ drop i before) where
  pub changes_more : Puts {T = T} {E = E} a b x y (Ok u) (flat_map changed_value (take i (zip items (enumerate_from 0 (zip before now))))) → Puts b c y z r (changed_value (item, (i, (get_or row i 0, value))))
      → Puts a c x z r (flat_map changed_value (take (i + 1) (zip items (enumerate_from 0 (zip before now)))))
  changes_more p q =
      let in_before : i < length before = omega (arith, long) in
      let in_now : i < length now = omega (arith, many) in
      let both : length (zip before now) ≡ length items = omega (arith, length-zip before now, long, many) in
      let here : i < length (zip before now) = omega (arith, both) in
      let is_before : get_or row i 0 ≡ get_or before i 0 = ap (λ t. get_or t i 0) so_far ∙ still_before now before i in_now in_before in
      let pair : (get_or row i 0, value) ≡ get_or (zip before now) i (get_or row i 0, value)
      = sym (zip_at before now i (get_or row i 0) value in_before (omega (arith, long, many)) (found_at before i 0 (get_or row i 0) in_before is_before) (found_at now i 0 value in_now is_now)) in
      zip_more changed_value items (enumerate_from 0 (zip before now)) i item (i, (get_or row i 0, value)) u a b c x y z r within (length-enumerate_from 0 (zip before now) ∙ both) is
      (placed_at (zip before now) i (get_or row i 0, value) here pair) p q

  pub row_more : set row i value ≡ take (i + 1) now ++ drop (i + 1) before
  row_more = (λ j. set (so_far j) i (is_now j)) ∙ overwritten now before i (omega (arith, many)) (omega (arith, long))

pub changes_whole : {T E : Type 0} (items : List Item) (before now : List ℕ) (i : ℕ) (a b : Option (List ℕ)) (x y : ℕ) (r : Result T E)
    → length items ≤ i → Puts a b x y r (flat_map changed_value (take i (zip items (enumerate_from 0 (zip before now))))) → Puts a b x y r (changed_values items before now)
changes_whole items before now i a b x y r all p = zip_whole changed_value items (enumerate_from 0 (zip before now)) i a b x y r all p

pub narrow : (width place value : ℕ) → width ≡ 1 → binary value ++ (item_code place ++ 10 ∷ []) ≡ value_change width place value
narrow width place value one =
    sym (ap (λ (b : Bool). cond b (binary value ++ (item_code place ++ 10 ∷ [])) (codes "b" ++ (binary value ++ (codes " " ++ (item_code place ++ 10 ∷ []))))) (eq-eqb width 1 one))
