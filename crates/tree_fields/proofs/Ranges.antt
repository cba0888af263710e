-- Fields stand in the bits of their own part of a tree, so no two have a bit in common.
use Rattle.std.proofs.Common.{◌≡◌, ℕ, zero, suc, ◌+◌, ◌<◌, ◌≤◌, List, [], ◌∷◌, ◌++◌, length, get_or, ap, ◌∙◌, inl, inr, arith}
use Rattle.std.specs.List.{AllByRecursion, AllPairs}
use Rattle.std.proofs.lemmas.List.{length-append}
use Rattle.instruction_trees.specs.Trees.{Item, Fixed, Free, Field, Child, Table, coding, Tree, Done, Pass, Value, Choose, form_bits, size, placed}
use Rattle.instruction_trees.specs.Values.{own_values, inner_values, values}
use Rattle.instruction_trees.proofs.Trees.{no_bits, length-open}
use Rattle.tree_fields.specs.Apart.{IsApart}
use Rattle.tree_fields.specs.Placed.{places}

-- ---- on lists

pub all_map : {X : Type 0} (P Q : X → Type 0) → ((x : X) → P x → Q x) → (xs : List X) → AllByRecursion P xs → AllByRecursion Q xs
all_map P Q f [] all = tt
all_map P Q f (x ∷ xs) all = (f x all.0, all_map P Q f xs all.1)

pub all_both : {X : Type 0} (P Q R : X → Type 0) → ((x : X) → P x → Q x → R x) → (xs : List X) → AllByRecursion P xs → AllByRecursion Q xs → AllByRecursion R xs
all_both P Q R f [] a b = tt
all_both P Q R f (x ∷ xs) a b = (f x a.0 b.0, all_both P Q R f xs a.1 b.1)

pub all_append : {X : Type 0} (P : X → Type 0) (xs ys : List X) → AllByRecursion P xs → AllByRecursion P ys → AllByRecursion P (xs ++ ys)
all_append P [] ys a b = b
all_append P (x ∷ xs) ys a b = (a.0, all_append P xs ys a.1 b)

pub all_at : {X : Type 0} (P : X → Type 0) (xs : List X) → AllByRecursion P xs → (k : ℕ) (d : X) → k < length xs → P (get_or xs k d)
all_at P [] all k d h = absurd (omega (arith, h))
all_at P (x ∷ xs) all zero d h = all.0
all_at P (x ∷ xs) all (suc k) d h = all_at P xs all.1 k d (omega (arith, h))

module _ {X : Type 0} (R : X → X → Type 0) where
  abbrev pub Pairs : List X → Type 0
  Pairs [] = Unit {0}
  Pairs (x ∷ xs) = AllByRecursion (R x) xs × Pairs xs

  abbrev pub Crosses : List X → List X → Type 0
  Crosses xs ys = AllByRecursion (λ x. AllByRecursion (R x) ys) xs

  pub pairs_append : (xs ys : List X) → Pairs xs → Pairs ys → Crosses xs ys → Pairs (xs ++ ys)
  pairs_append [] ys p q c = q
  pairs_append (x ∷ xs) ys p q c = (all_append (R x) xs ys p.0 c.0, pairs_append xs ys p.1 q c.1)

  pub pairs_at : (xs : List X) → Pairs xs → AllPairs R xs
  pairs_at [] p i j d h l = absurd (omega (arith, l))
  pairs_at (x ∷ xs) p i zero d h l = absurd (omega (arith, h))
  pairs_at (x ∷ xs) p zero (suc j) d h l = all_at (R x) xs p.0 j d (omega (arith, l))
  pairs_at (x ∷ xs) p (suc i) (suc j) d h l = pairs_at xs p.1 i j d (omega (arith, h)) (omega (arith, l))

  pub crosses_from : (P Q : X → Type 0) → ((x y : X) → P x → Q y → R x y) → (xs ys : List X) → AllByRecursion P xs → AllByRecursion Q ys → Crosses xs ys
  crosses_from P Q f [] ys a b = tt
  crosses_from P Q f (x ∷ xs) ys a b = (all_map Q (R x) (λ y q. f x y a.0 q) ys b, crosses_from P Q f xs ys a.1 b)

  pub crosses_right : (xs ys zs : List X) → Crosses xs ys → Crosses xs zs → Crosses xs (ys ++ zs)
  crosses_right [] ys zs a b = tt
  crosses_right (x ∷ xs) ys zs a b = (all_append (R x) ys zs a.0 b.0, crosses_right xs ys zs a.1 b.1)

-- ---- where the fields of a tree stand

-- a field stands at or above one bit, and below another
pub record IsBetween (low high : ℕ) (p : ℕ × ℕ) : Type 0 where
  pub above : low ≤ p.0
  pub below : p.0 + p.1 ≤ high

wider : (a b c e : ℕ) (ps : List (ℕ × ℕ)) → c ≤ a → b ≤ e → AllByRecursion (IsBetween a b) ps → AllByRecursion (IsBetween c e) ps
wider a b c e ps l m all = all_map (IsBetween a b) (IsBetween c e) (λ p h. record { above = (let x = h.above in omega (arith, x, l)); below = (let y = h.below in omega (arith, y, m)) }) ps all

under : (a b c : ℕ) (p q : ℕ × ℕ) → IsBetween b c p → IsBetween a b q → IsApart p q
under a b c p q h l = inr (let x = h.above in let y = l.below in omega (arith, x, y))

over : (a b c : ℕ) (p q : ℕ × ℕ) → IsBetween a b p → IsBetween b c q → IsApart p q
over a b c p q l h = inl (let x = h.above in let y = l.below in omega (arith, x, y))

pub field_size : (n : ℕ) {V : Type 0} (table : Table) (t : Tree V) (items : List Item) → length (no_bits n ++ form_bits table t items) ≡ n + size table t items
field_size n table t items = length-append (no_bits n) (form_bits table t items) ∙ ap (λ (k : ℕ). k + size table t items) (length-open n)

pub child_size : {V : Type 0} (table : Table) (k : ℕ) (own t : Tree V) (items : List Item) → length (form_bits table own (coding table k) ++ form_bits table t items) ≡ size table own (coding table k) + size table t items
child_size table k own t items = length-append (form_bits table own (coding table k)) (form_bits table t items)

module _ {V : Type 0} (table : Table) where
  abbrev Stands : ℕ → Tree V → List Item → List (ℕ × ℕ) → Type 0
  Stands low t items ps = AllByRecursion (IsBetween low (low + size table t items)) ps

  pub own_between : (low : ℕ) (t : Tree V) (items : List Item) → Stands low t items (own_values (placed table low t items))
  own_between low Done items = tt
  own_between low (Pass t) (Fixed b ∷ items) = wider low (low + size table t items) low (low + suc (size table t items)) _ (omega arith) (omega arith) (own_between low t items)
  own_between low (Pass t) (Free ∷ items) = wider low (low + size table t items) low (low + suc (size table t items)) _ (omega arith) (omega arith) (own_between low t items)
  own_between low (Value v t) (Field n ∷ items) =
      let e = field_size n table t items in
      (record { above = omega arith; below = omega (arith, e) }, wider low (low + size table t items) low (low + length (no_bits n ++ form_bits table t items)) _ (omega arith) (omega (arith, e)) (own_between low t items))
  own_between low (Choose k own t) (Child ks ∷ items) =
      let e = child_size table k own t items in
      wider low (low + size table t items) low (low + length (form_bits table own (coding table k) ++ form_bits table t items)) _ (omega arith) (omega (arith, e)) (own_between low t items)
  own_between low _ _ = tt

  pub inner_between : (low : ℕ) (t : Tree V) (items : List Item) → Stands low t items (inner_values (placed table low t items))
  inner_between low Done items = tt
  inner_between low (Pass t) (Fixed b ∷ items) = wider low (low + size table t items) low (low + suc (size table t items)) _ (omega arith) (omega arith) (inner_between low t items)
  inner_between low (Pass t) (Free ∷ items) = wider low (low + size table t items) low (low + suc (size table t items)) _ (omega arith) (omega arith) (inner_between low t items)
  inner_between low (Value v t) (Field n ∷ items) =
      let e = field_size n table t items in
      wider low (low + size table t items) low (low + length (no_bits n ++ form_bits table t items)) _ (omega arith) (omega (arith, e)) (inner_between low t items)
  inner_between low (Choose k own t) (Child ks ∷ items) =
      let e = child_size table k own t items in
      let up = low + size table t items in
      let whole = low + length (form_bits table own (coding table k) ++ form_bits table t items) in
      let p = placed table up own (coding table k) in
      all_append (IsBetween low whole) (own_values p ++ inner_values p) (inner_values (placed table low t items))
      (wider up (up + size table own (coding table k)) low whole _ (omega arith) (omega (arith, e))
      (all_append (IsBetween up (up + size table own (coding table k))) (own_values p) (inner_values p) (own_between up own (coding table k)) (inner_between up own (coding table k))))
      (wider low up low whole _ (omega arith) (omega (arith, e)) (inner_between low t items))
  inner_between low _ _ = tt

  -- ---- no two have a bit in common

  pub own_apart : (low : ℕ) (t : Tree V) (items : List Item) → Pairs IsApart (own_values (placed table low t items))
  own_apart low Done items = tt
  own_apart low (Pass t) (Fixed b ∷ items) = own_apart low t items
  own_apart low (Pass t) (Free ∷ items) = own_apart low t items
  own_apart low (Value v t) (Field n ∷ items) =
      let up = low + size table t items in
      (all_map (IsBetween low up) (IsApart (up, n)) (λ q h. inr (let y = h.below in omega (arith, y))) _ (own_between low t items), own_apart low t items)
  own_apart low (Choose k own t) (Child ks ∷ items) = own_apart low t items
  own_apart low _ _ = tt

  pub parts_apart : (low : ℕ) (t : Tree V) (items : List Item) → Crosses IsApart (own_values (placed table low t items)) (inner_values (placed table low t items))
  parts_apart low Done items = tt
  parts_apart low (Pass t) (Fixed b ∷ items) = parts_apart low t items
  parts_apart low (Pass t) (Free ∷ items) = parts_apart low t items
  parts_apart low (Value v t) (Field n ∷ items) =
      let up = low + size table t items in
      (all_map (IsBetween low up) (IsApart (up, n)) (λ q h. inr (let y = h.below in omega (arith, y))) _ (inner_between low t items), parts_apart low t items)
  parts_apart low (Choose k own t) (Child ks ∷ items) =
      let up = low + size table t items in
      let high = up + size table own (coding table k) in
      let p = placed table up own (coding table k) in
      crosses_right IsApart (own_values (placed table low t items)) (own_values p ++ inner_values p) (inner_values (placed table low t items))
      (crosses_from IsApart (IsBetween low up) (IsBetween up high) (over low up high) (own_values (placed table low t items)) (own_values p ++ inner_values p) (own_between low t items)
      (all_append (IsBetween up high) (own_values p) (inner_values p) (own_between up own (coding table k)) (inner_between up own (coding table k))))
      (parts_apart low t items)
  parts_apart low _ _ = tt

  pub inner_apart : (low : ℕ) (t : Tree V) (items : List Item) → Pairs IsApart (inner_values (placed table low t items))
  inner_apart low Done items = tt
  inner_apart low (Pass t) (Fixed b ∷ items) = inner_apart low t items
  inner_apart low (Pass t) (Free ∷ items) = inner_apart low t items
  inner_apart low (Value v t) (Field n ∷ items) = inner_apart low t items
  inner_apart low (Choose k own t) (Child ks ∷ items) =
      let up = low + size table t items in
      let high = up + size table own (coding table k) in
      let p = placed table up own (coding table k) in
      pairs_append IsApart (own_values p ++ inner_values p) (inner_values (placed table low t items))
      (pairs_append IsApart (own_values p) (inner_values p) (own_apart up own (coding table k)) (inner_apart up own (coding table k)) (parts_apart up own (coding table k)))
      (inner_apart low t items)
      (crosses_from IsApart (IsBetween up high) (IsBetween low up) (under low up high) (own_values p ++ inner_values p) (inner_values (placed table low t items))
      (all_append (IsBetween up high) (own_values p) (inner_values p) (own_between up own (coding table k)) (inner_between up own (coding table k)))
      (inner_between low t items))
  inner_apart low _ _ = tt

  pub all_apart : (t : Tree V) (items : List Item) → AllPairs IsApart (places table t items)
  all_apart t items =
      let p = placed table 0 t items in
      pairs_at IsApart (values p) (pairs_append IsApart (own_values p) (inner_values p) (own_apart 0 t items) (inner_apart 0 t items) (parts_apart 0 t items))
