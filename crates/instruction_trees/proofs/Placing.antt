-- Where the fields of a tree stand, and which values they hold.
use Rattle.std.proofs.Common.{◌≡◌, ℕ, suc, ◌+◌, ◌<◌, ◌≤◌, ◌^◌, List, [], ◌∷◌, ◌++◌, length, sym, ap, ap₂, ◌∙◌, subst, arith}
use Rattle.std.specs.List.{All}
use Rattle.std.proofs.lemmas.List.{length-append}
use Rattle.std.proofs.lemmas.List.Elements.{All-nil, All-cons, All-append}
use Rattle.instruction_trees.specs.Trees.{Item, Fixed, Free, Field, Child, Table, coding, Tree, Done, Pass, Value, Choose, Fits, IsBelow, AnyValue, form_bits, size, placed}
use Rattle.instruction_trees.specs.Values.{own_values, inner_values, values, AreWithin, none, more, StandsBelow}
use Rattle.instruction_trees.proofs.Trees.{no_bits, length-open}
use Rattle.instruction_trees.proofs.Weighed.{own_sizes, inner_sizes}

-- ---- values within their places

pub within_append : {xs ys : List ℕ} {ps qs : List (ℕ × ℕ)} → AreWithin xs ps → AreWithin ys qs → AreWithin (xs ++ ys) (ps ++ qs)
within_append none w = w
within_append (more h v) w = more h (within_append v w)

within_head : {v : ℕ} {p : ℕ × ℕ} {vs : List ℕ} {ps : List (ℕ × ℕ)} → AreWithin (v ∷ vs) (p ∷ ps) → (v < 2 ^ p.1) × AreWithin vs ps
within_head (more h w) = (h, w)

pub within_split : (xs ys : List ℕ) (ps qs : List (ℕ × ℕ)) → length xs ≡ length ps → AreWithin (xs ++ ys) (ps ++ qs) → AreWithin xs ps × AreWithin ys qs
within_split [] ys [] qs l w = (none, w)
within_split [] ys (p ∷ ps) qs l w = absurd cc
within_split (x ∷ xs) ys [] qs l w = absurd cc
within_split (x ∷ xs) ys (p ∷ ps) qs l w = let h = within_head w in let t = within_split xs ys ps qs (cc) h.1 in (more h.0 t.0, t.1)

module _ (table : Table) where
  own_within : (low : ℕ) (t : Tree ℕ) (items : List Item) → Fits IsBelow table t items → AreWithin (own_values t) (own_values (placed table low t items))
  own_within low Done [] fits = none
  own_within low (Pass t) (Fixed b ∷ items) fits = own_within low t items fits
  own_within low (Pass t) (Free ∷ items) fits = own_within low t items fits
  own_within low (Value v t) (Field n ∷ items) fits = more fits.0 (own_within low t items fits.1)
  own_within low (Choose k own t) (Child ks ∷ items) fits = own_within low t items fits.2
  own_within low _ _ fits = absurd fits

  inner_within : (low : ℕ) (t : Tree ℕ) (items : List Item) → Fits IsBelow table t items → AreWithin (inner_values t) (inner_values (placed table low t items))
  inner_within low Done [] fits = none
  inner_within low (Pass t) (Fixed b ∷ items) fits = inner_within low t items fits
  inner_within low (Pass t) (Free ∷ items) fits = inner_within low t items fits
  inner_within low (Value v t) (Field n ∷ items) fits = inner_within low t items fits.1
  inner_within low (Choose k own t) (Child ks ∷ items) fits =
      let up = low + size table t items in
      within_append (within_append (own_within up own (coding table k) fits.1) (inner_within up own (coding table k) fits.1)) (inner_within low t items fits.2)
  inner_within low _ _ fits = absurd fits

  pub values_within : (t : Tree ℕ) (items : List Item) → Fits IsBelow table t items → AreWithin (values t) (values (placed table 0 t items))
  values_within t items fits = within_append (own_within 0 t items fits) (inner_within 0 t items fits)

  within_fits : (low : ℕ) (t : Tree ℕ) (items : List Item) → Fits AnyValue table t items
      → AreWithin (own_values t) (own_values (placed table low t items)) → AreWithin (inner_values t) (inner_values (placed table low t items)) → Fits IsBelow table t items
  within_fits low Done [] fits o i = tt
  within_fits low (Pass t) (Fixed b ∷ items) fits o i = within_fits low t items fits o i
  within_fits low (Pass t) (Free ∷ items) fits o i = within_fits low t items fits o i
  within_fits low (Value v t) (Field n ∷ items) fits o i = let h = within_head o in (h.0, within_fits low t items fits.1 h.1 i)
  within_fits low (Choose k own t) (Child ks ∷ items) fits o i =
      let up = low + size table t items in
      let p = placed table up own (coding table k) in
      let q = placed table low t items in
      let a = own_sizes AnyValue table up own (coding table k) fits.1 in
      let b = inner_sizes AnyValue table up own (coding table k) fits.1 in
      let l : length (own_values own ++ inner_values own) ≡ length (own_values p ++ inner_values p) = length-append (own_values own) (inner_values own) ∙ ap₂ (λ (x y : ℕ). x + y) a b ∙ sym (length-append (own_values p) (inner_values p)) in
      let cut = within_split (own_values own ++ inner_values own) (inner_values t) (own_values p ++ inner_values p) (inner_values q) l i in
      let parts = within_split (own_values own) (inner_values own) (own_values p) (inner_values p) a cut.0 in
      (fits.0, within_fits up own (coding table k) fits.1 parts.0 parts.1, within_fits low t items fits.2 o cut.1)
  within_fits low _ _ fits o i = absurd fits

  pub values_fit : (t : Tree ℕ) (items : List Item) → Fits AnyValue table t items → AreWithin (values t) (values (placed table 0 t items)) → Fits IsBelow table t items
  values_fit t items fits w =
      let parts = within_split (own_values t) (inner_values t) (own_values (placed table 0 t items)) (inner_values (placed table 0 t items)) (own_sizes AnyValue table 0 t items fits) w in
      within_fits 0 t items fits parts.0 parts.1

-- ---- places inside the width

all_below : (m n : ℕ) (ps : List (ℕ × ℕ)) → m ≤ n → All (StandsBelow m) ps → All (StandsBelow n) ps
all_below m n ps le a = λ k d h. let below = a k d h in omega arith

module _ {V : Type 0} (table : Table) where
  own_inside : (low : ℕ) (t : Tree V) (items : List Item) → All (StandsBelow (low + size table t items)) (own_values (placed table low t items))
  own_inside low Done items = All-nil (StandsBelow _)
  own_inside low (Pass t) (Fixed b ∷ items) = all_below (low + size table t items) (low + suc (size table t items)) _ (omega arith) (own_inside low t items)
  own_inside low (Pass t) (Free ∷ items) = all_below (low + size table t items) (low + suc (size table t items)) _ (omega arith) (own_inside low t items)
  own_inside low (Value v t) (Field n ∷ items) =
      let e : length (no_bits n ++ form_bits table t items) ≡ n + size table t items = length-append (no_bits n) (form_bits table t items) ∙ ap (λ (k : ℕ). k + size table t items) (length-open n) in
      All-cons (StandsBelow _) _ _ (omega (arith, e)) (all_below (low + size table t items) (low + length (no_bits n ++ form_bits table t items)) _ (omega (arith, e)) (own_inside low t items))
  own_inside low (Choose k own t) (Child ks ∷ items) =
      let e = length-append (form_bits table own (coding table k)) (form_bits table t items) in
      all_below (low + size table t items) (low + length (form_bits table own (coding table k) ++ form_bits table t items)) _ (omega (arith, e)) (own_inside low t items)
  own_inside low _ _ = All-nil (StandsBelow _)

  inner_inside : (low : ℕ) (t : Tree V) (items : List Item) → All (StandsBelow (low + size table t items)) (inner_values (placed table low t items))
  inner_inside low Done items = All-nil (StandsBelow _)
  inner_inside low (Pass t) (Fixed b ∷ items) = all_below (low + size table t items) (low + suc (size table t items)) _ (omega arith) (inner_inside low t items)
  inner_inside low (Pass t) (Free ∷ items) = all_below (low + size table t items) (low + suc (size table t items)) _ (omega arith) (inner_inside low t items)
  inner_inside low (Value v t) (Field n ∷ items) =
      let e : length (no_bits n ++ form_bits table t items) ≡ n + size table t items = length-append (no_bits n) (form_bits table t items) ∙ ap (λ (k : ℕ). k + size table t items) (length-open n) in
      all_below (low + size table t items) (low + length (no_bits n ++ form_bits table t items)) _ (omega (arith, e)) (inner_inside low t items)
  inner_inside low (Choose k own t) (Child ks ∷ items) =
      let up = low + size table t items in
      let whole = low + length (form_bits table own (coding table k) ++ form_bits table t items) in
      let e = length-append (form_bits table own (coding table k)) (form_bits table t items) in
      let same : up + size table own (coding table k) ≡ whole = omega (arith, e) in
      let p = placed table up own (coding table k) in
      All-append (StandsBelow _) (own_values p ++ inner_values p) (inner_values (placed table low t items))
      (subst (λ (n : ℕ). All (StandsBelow n) (own_values p ++ inner_values p)) same (All-append (StandsBelow _) (own_values p) (inner_values p) (own_inside up own (coding table k)) (inner_inside up own (coding table k))))
      (all_below up whole _ (omega (arith, e)) (inner_inside low t items))
  inner_inside low _ _ = All-nil (StandsBelow _)

  pub places_inside : (t : Tree V) (items : List Item) → All (StandsBelow (size table t items)) (values (placed table 0 t items))
  places_inside t items =
      let n = size table t items in
      subst (λ (k : ℕ). All (StandsBelow k) (values (placed table 0 t items))) {x = 0 + n} {y = n} (omega arith) (All-append (StandsBelow (0 + n)) (own_values (placed table 0 t items)) (inner_values (placed table 0 t items)) (own_inside 0 t items) (inner_inside 0 t items))
