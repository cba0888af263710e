-- Each tree that fits is listed, what is listed fits, and nothing is listed twice.
use Rattle.std.proofs.Common.{◌≡◌, ℕ, zero, suc, ◌<◌, ◌≤◌, List, [], ◌∷◌, ◌++◌, map, refl, sym, ◌∙◌, subst, arith, inl, inr, ◌⊎◌}
use Rattle.std.specs.List.{flat_map}
use Rattle.instruction_trees.specs.Trees.{Tree, Item, Fixed, Free, Field, Child, Table, coding, Done, Pass, Value, Choose, Fits, Form, AnyValue, In, here, there}
use Rattle.instruction_trees.specs.Forms.{listed, forms, height, Distinct, none, more, IsOnce, IsRanked, AreRankedBelow}

-- ---- being in a list

module _ {A : Type 0} where
  pub in_left : {x : A} {xs : List A} (ys : List A) → In x xs → In x (xs ++ ys)
  in_left ys here = here
  in_left ys (there i) = there (in_left ys i)

  pub in_right : {x : A} (xs : List A) {ys : List A} → In x ys → In x (xs ++ ys)
  in_right [] i = i
  in_right (y ∷ xs) i = there (in_right xs i)

  pub in_append : {x : A} (xs ys : List A) → In x (xs ++ ys) → In x xs ⊎ In x ys
  in_append [] ys i = inr i
  in_append (x ∷ xs) ys here = inl here
  in_append (x ∷ xs) ys (there i) = elim (in_append xs ys i) [ inl l ↦ inl (there l) | inr r ↦ inr r ]

  pub distinct_append : {xs ys : List A} → Distinct xs → Distinct ys → ((x : A) → In x xs → In x ys → ⊥) → Distinct (xs ++ ys)
  distinct_append none d apart = d
  distinct_append {ys = ys} (more {x = x} {xs = xs} out c) d apart =
      more (λ i. elim (in_append xs ys i) [ inl l ↦ out l | inr r ↦ apart x here r ]) (distinct_append c d (λ y l r. apart y (there l) r))

module _ {A B : Type 0} where
  pub in_map : (f : A → B) {x : A} {xs : List A} → In x xs → In (f x) (map f xs)
  in_map f here = here
  in_map f (there i) = there (in_map f i)

  pub from_map : (f : A → B) (xs : List A) {y : B} → In y (map f xs) → (x : A) × In x xs × (y ≡ f x)
  from_map f [] i = elim i [ ]
  from_map f (x ∷ xs) here = (x, here, refl)
  from_map f (x ∷ xs) (there i) = let t = from_map f xs i in (t.0, there t.1, t.2)

  pub distinct_map : (f : A → B) → ((x y : A) → f x ≡ f y → x ≡ y) → {xs : List A} → Distinct xs → Distinct (map f xs)
  distinct_map f same none = none
  distinct_map f same (more {x = x} {xs = xs} out d) = more (λ i. let t = from_map f xs i in out (subst (λ (z : A). In z xs) (sym (same x t.0 t.2)) t.1)) (distinct_map f same d)

  pub in_flat : (f : A → List B) {x : A} {xs : List A} {y : B} → In x xs → In y (f x) → In y (flat_map f xs)
  in_flat f (here {xs = xs}) j = in_left (flat_map f xs) j
  in_flat f (there {y = z} i) j = in_right (f z) (in_flat f i j)

  pub from_flat : (f : A → List B) (xs : List A) {y : B} → In y (flat_map f xs) → (x : A) × In x xs × In y (f x)
  from_flat f [] i = elim i [ ]
  from_flat f (x ∷ xs) i = elim (in_append (f x) (flat_map f xs) i) [ inl l ↦ (x, here, l) | inr r ↦ (let t = from_flat f xs r in (t.0, there t.1, t.2)) ]

  pub distinct_flat : (f : A → List B) → ((x y : A) (b : B) → In b (f x) → In b (f y) → x ≡ y) → {xs : List A} → ((x : A) → Distinct (f x)) → Distinct xs → Distinct (flat_map f xs)
  distinct_flat f same each none = none
  distinct_flat f same each (more {x = x} {xs = xs} out d) =
      (distinct_append (each x) (distinct_flat f same each d) (λ b l r. let t = from_flat f xs r in out (subst (λ (z : A). In z xs) (sym (same x t.0 b l t.2)) t.1)))

-- ---- forms

module _ (table : Table) where
  listed_fits : (below : List Item → List Form) → ((items : List Item) (t : Form) → In t (below items) → Fits AnyValue table t items)
      → (items : List Item) (t : Form) → In t (listed below table items) → Fits AnyValue table t items
  listed_fits below sound [] t (here) = tt
  listed_fits below sound [] t (there i) = elim i [ ]
  listed_fits below sound (Fixed b ∷ items) t i = let m = from_map Pass (listed below table items) i in subst (λ (u : Form). Fits AnyValue table u (Fixed b ∷ items)) (sym m.2) (listed_fits below sound items m.0 m.1)
  listed_fits below sound (Free ∷ items) t i = let m = from_map Pass (listed below table items) i in subst (λ (u : Form). Fits AnyValue table u (Free ∷ items)) (sym m.2) (listed_fits below sound items m.0 m.1)
  listed_fits below sound (Field n ∷ items) t i = let m = from_map (Value tt) (listed below table items) i in subst (λ (u : Form). Fits AnyValue table u (Field n ∷ items)) (sym m.2) (tt, listed_fits below sound items m.0 m.1)
  listed_fits below sound (Child ks ∷ items) t i =
      let rest = listed below table items in
      let a = from_flat (λ k. flat_map (λ own. map (Choose k own) rest) (below (coding table k))) ks i in
      let b = from_flat (λ own. map (Choose a.0 own) rest) (below (coding table a.0)) a.2 in
      let m = from_map (Choose a.0 b.0) rest b.2 in
      subst (λ (u : Form). Fits AnyValue table u (Child ks ∷ items)) (sym m.2) (a.1, sound (coding table a.0) b.0 b.1, listed_fits below sound items m.0 m.1)

  pub forms_fit : (depth : ℕ) (items : List Item) (t : Form) → In t (forms depth table items) → Fits AnyValue table t items
  forms_fit zero items t i = listed_fits (λ _. []) (λ xs u j. elim j [ ]) items t i
  forms_fit (suc depth) items t i = listed_fits (forms depth table) (forms_fit depth) items t i

  listed_all : (depth : ℕ) (below : List Item → List Form) → ((items : List Item) (t : Form) → Fits AnyValue table t items → height t < depth → In t (below items))
      → (t : Form) (items : List Item) → Fits AnyValue table t items → height t ≤ depth → In t (listed below table items)
  listed_all depth below all Done [] fits low = here
  listed_all depth below all (Pass t) (Fixed b ∷ items) fits low = in_map Pass (listed_all depth below all t items fits low)
  listed_all depth below all (Pass t) (Free ∷ items) fits low = in_map Pass (listed_all depth below all t items fits low)
  listed_all depth below all (Value v t) (Field n ∷ items) fits low = in_map (Value tt) (listed_all depth below all t items fits.1 low)
  listed_all depth below all (Choose k own t) (Child ks ∷ items) fits low =
      let rest = listed below table items in
      in_flat (λ c. flat_map (λ o. map (Choose c o) rest) (below (coding table c))) fits.0
      (in_flat (λ o. map (Choose k o) rest) (all (coding table k) own fits.1 (omega arith)) (in_map (Choose k own) (listed_all depth below all t items fits.2 (omega arith))))
  listed_all depth below all _ _ fits low = absurd fits

  pub all_forms : (depth : ℕ) (items : List Item) (t : Form) → Fits AnyValue table t items → height t ≤ depth → In t (forms depth table items)
  all_forms zero items t fits low = listed_all 0 (λ _. []) (λ xs u f h. absurd (omega arith)) t items fits low
  all_forms (suc depth) items t fits low = listed_all (suc depth) (forms depth table) (λ xs u f h. all_forms depth xs u f (omega arith)) t items fits low

  listed_distinct : (below : List Item → List Form) → ((k : ℕ) → Distinct (below (coding table k)))
      → (items : List Item) → IsOnce items → Distinct (listed below table items)
  listed_distinct below each [] once = more (λ i. elim i [ ]) none
  listed_distinct below each (Fixed b ∷ items) once = distinct_map Pass (λ x y e. cc) (listed_distinct below each items once)
  listed_distinct below each (Free ∷ items) once = distinct_map Pass (λ x y e. cc) (listed_distinct below each items once)
  listed_distinct below each (Field n ∷ items) once = distinct_map (Value tt) (λ x y e. cc) (listed_distinct below each items once)
  listed_distinct below each (Child ks ∷ items) once =
      let rest = listed below table items in
      distinct_flat (λ k. flat_map (λ own. map (Choose k own) rest) (below (coding table k)))
      (λ x y b i j.
      let a = from_flat (λ own. map (Choose x own) rest) (below (coding table x)) i in
      let c = from_flat (λ own. map (Choose y own) rest) (below (coding table y)) j in
      let m = from_map (Choose x a.0) rest a.2 in
      let n = from_map (Choose y c.0) rest c.2 in
      let e : Choose x a.0 m.0 ≡ Choose y c.0 n.0 = sym m.2 ∙ n.2 in cc)
      (λ k. distinct_flat (λ own. map (Choose k own) rest)
      (λ x y b i j.
      let m = from_map (Choose k x) rest i in
      let n = from_map (Choose k y) rest j in
      let e : Choose k x m.0 ≡ Choose k y n.0 = sym m.2 ∙ n.2 in cc)
      (λ own. distinct_map (Choose k own) (λ x y e. cc) (listed_distinct below each items once.1))
      (each k))
      once.0

  pub forms_distinct : ((k : ℕ) → IsOnce (coding table k)) → (depth : ℕ) (items : List Item) → IsOnce items → Distinct (forms depth table items)
  forms_distinct once zero items is = listed_distinct (λ _. []) (λ k. none) items is
  forms_distinct once (suc depth) items is = listed_distinct (forms depth table) (λ k. forms_distinct once depth (coding table k) (once k)) items is

-- ---- how deep a tree may be

module _ (table : Table) (rank : ℕ → ℕ) (ranked : IsRanked table rank) where
  pub low_enough : {V : Type 0} (r : ℕ) (t : Tree V) (items : List Item) → AreRankedBelow rank r items → Fits AnyValue table t items → height t ≤ r
  low_enough r Done [] below fits = omega arith
  low_enough r (Pass t) (Fixed b ∷ items) below fits = low_enough r t items (λ c ks i j. below c ks (there i) j) fits
  low_enough r (Pass t) (Free ∷ items) below fits = low_enough r t items (λ c ks i j. below c ks (there i) j) fits
  low_enough r (Value v t) (Field n ∷ items) below fits = low_enough r t items (λ c ks i j. below c ks (there i) j) fits.1
  low_enough r (Choose k own t) (Child ks ∷ items) below fits =
      let a : rank k < r = below k ks here fits.0 in
      let b : height own ≤ rank k = low_enough (rank k) own (coding table k) (λ c cs i j. ranked k c cs i j) fits.1 in
      let d : height t ≤ r = low_enough r t items (λ c cs i j. below c cs (there i) j) fits.2 in omega arith
  low_enough r _ _ below fits = absurd fits
