-- What a syntax shows, by its places in the coding.
use Rattle.std.proofs.Common.{◌≡◌, ◌⊎◌, ◌≤◌, ◌+◌, ℕ, List, [], ◌∷◌, Option, Some, Bool, true, false, cond, map, refl, sym, ap, ◌∙◌, arith, subst, inl, inr}
use Rattle.std.specs.Prelude.{slice_get}
use Rattle.std.specs.List.{sum_by, AllByRecursion}
use Rattle.std.specs.Cmp.Lexicographic.{nat_list_eq_equiv}
use Rattle.std.proofs.lemmas.List.Sums.{sum_by-cons}
use Rattle.lisa_tree.specs.declared.descriptions.CodingItem.{CodingItem}
use Rattle.lisa_tree.specs.declared.descriptions.SyntaxItem.{SyntaxItem}
use Rattle.lisa_tree.specs.declared.descriptions.SyntaxPart.{SyntaxPart}
use Rattle.lisa_tree.specs.declared.descriptions.SyntaxPart.TheVariants as parts
use Rattle.form_texts.specs.coding_checks.Written.{is_shown, part_count}
use Rattle.form_texts.specs.instruction_forms.Described.{labels}
use Rattle.instruction_trees.specs.Trees.{In, here, there}
use Rattle.instruction_trees.specs.Forms.{Distinct, none, more}
use Rattle.instruction_trees.proofs.Listing.{in_left, in_right, in_append, distinct_append}
use Rattle.form_texts.specs.instruction_texts.Once.{Key, OfField, OfPart, own_keys, keys}
use Rattle.form_texts.specs.Syntaxes.{child_names, place_in, content, element}
use Rattle.form_promises.proofs.Counted.{same_is, place_is, count, label_once, child_once, either_once}

only : {A : Type 0} (x y : A) → In x (y ∷ []) → x ≡ y
only x y here = refl
only x y (there i) = elim i [ ]

module _ (all : List CodingItem) where
  -- this key is that of a field or a child of this name
  abbrev pub IsKeyOf : Key → List ℕ → Type 0
  IsKeyOf (OfField j) n = slice_get (labels all) j ≡ Some n
  IsKeyOf (OfPart j) n = slice_get (child_names all) j ≡ Some n

  -- what is shown has a place in the coding
  abbrev pub HasPlace : SyntaxPart → Type 0
  HasPlace (parts.Literal text) = Unit {0}
  HasPlace (parts.Number n format) = (k : ℕ) × (slice_get (labels all) k ≡ Some n)
  HasPlace (parts.Child n) = (k : ℕ) × (slice_get (child_names all) k ≡ Some n)

  abbrev pub HavePlaces : List SyntaxItem → Type 0
  HavePlaces shown = AllByRecursion (λ item. HasPlace item.part) shown

  abbrev pub keys_of : List SyntaxItem → List Key
  keys_of shown = keys (map (element all) shown)

  some_same : (n m : List ℕ) (r : Option (List ℕ)) → r ≡ Some n → r ≡ Some m → n ≡ m
  some_same n m r e f = cc (e, f)

  one_name : (x : Key) (n m : List ℕ) → IsKeyOf x n → IsKeyOf x m → n ≡ m
  one_name (OfField j) n m e f = some_same n m (slice_get (labels all) j) e f
  one_name (OfPart j) n m e f = some_same n m (slice_get (child_names all) j) e f

  one_key : (n : List ℕ) → count n all ≤ 1 → (x y : Key) → IsKeyOf x n → IsKeyOf y n → x ≡ y
  one_key n h (OfField j) (OfField k) e f = ap (λ (i : ℕ). OfField i) (label_once n all h j k e f)
  one_key n h (OfPart j) (OfPart k) e f = ap (λ (i : ℕ). OfPart i) (child_once n all h j k e f)
  one_key n h (OfField j) (OfPart k) e f = absurd (either_once n all h j k e f)
  one_key n h (OfPart j) (OfField k) e f = absurd (either_once n all h k j f e)

  -- ---- parts

  next : (n : List ℕ) (item : SyntaxItem) (shown : List SyntaxItem) → sum_by (part_count n) (item ∷ shown) ≡ part_count n item + sum_by (part_count n) shown
  next n item shown = sum_by-cons (part_count n) item shown

  shows : (n : List ℕ) (item : SyntaxItem) → is_shown n item.part ≡ true → part_count n item ≡ 1
  shows n item e = ap (λ (b : Bool). cond b 1 0) e

  hides : (n : List ℕ) (item : SyntaxItem) → is_shown n item.part ≡ false → part_count n item ≡ 0
  hides n item e = ap (λ (b : Bool). cond b 1 0) e

  -- a name, and the key that it is shown by
  record Named (part : SyntaxPart) (x : Key) : Type 0 where
    name : List ℕ
    shown : is_shown name part ≡ true
    key : IsKeyOf x name

  part_named : (part : SyntaxPart) → HasPlace part → (x : Key) → In x (own_keys (content all part)) → Named part x
  part_named (parts.Literal text) h x i = elim i [ ]
  part_named (parts.Number n format) h x i =
      subst (λ (y : Key). Named (parts.Number n format) y) (sym (only x (OfField (place_in n (labels all))) i))
      (record { name = n; shown = nat_list_eq_equiv.refl n; key = place_is n (labels all) h.0 h.1 })
  part_named (parts.Child n) h x i =
      subst (λ (y : Key). Named (parts.Child n) y) (sym (only x (OfPart (place_in n (child_names all))) i))
      (record { name = n; shown = nat_list_eq_equiv.refl n; key = place_is n (child_names all) h.0 h.1 })

  part_keyed : (n : List ℕ) → count n all ≤ 1 → (part : SyntaxPart) → HasPlace part → is_shown n part ≡ true → (x : Key) → IsKeyOf x n → In x (own_keys (content all part))
  part_keyed n once (parts.Literal text) h e x is = absurd (cc e)
  part_keyed n once (parts.Number m format) h e x is =
      let same = same_is n m e in
      let y : Key = OfField (place_in m (labels all)) in
      let key : IsKeyOf y n = place_is m (labels all) h.0 h.1 ∙ ap (λ (z : List ℕ). Some z) (sym same) in
      subst (λ (z : Key). In z (y ∷ [])) (sym (one_key n once x y is key)) here
  part_keyed n once (parts.Child m) h e x is =
      let same = same_is n m e in
      let y : Key = OfPart (place_in m (child_names all)) in
      let key : IsKeyOf y n = place_is m (child_names all) h.0 h.1 ∙ ap (λ (z : List ℕ). Some z) (sym same) in
      subst (λ (z : Key). In z (y ∷ [])) (sym (one_key n once x y is key)) here

  part_distinct : (part : SyntaxPart) → Distinct (own_keys (content all part))
  part_distinct (parts.Literal text) = none
  part_distinct (parts.Number n format) = more (λ i. elim i [ ]) none
  part_distinct (parts.Child n) = more (λ i. elim i [ ]) none

  -- ---- syntaxes

  record Shows (shown : List SyntaxItem) (x : Key) : Type 0 where
    name : List ℕ
    counted : 1 ≤ sum_by (part_count name) shown
    key : IsKeyOf x name

  all_named : (shown : List SyntaxItem) → HavePlaces shown → (x : Key) → In x (keys_of shown) → Shows shown x
  all_named [] h x i = elim i [ ]
  all_named (item ∷ shown) h x i = by (in_append (own_keys (content all item.part)) (keys_of shown) i) (λ j. all_named shown h.1 x j)
    where
      by : In x (own_keys (content all item.part)) ⊎ In x (keys_of shown) → (In x (keys_of shown) → Shows shown x) → Shows (item ∷ shown) x
      by (inl j) later =
          let p = part_named item.part h.0 x j in
          let c = shows p.name item p.shown in
          let s = next p.name item shown in
          record { name = p.name; counted = omega (arith, c, s); key = p.key }
      by (inr j) later =
          let l = later j in
          let s = next l.name item shown in
          let c = l.counted in
          record { name = l.name; counted = omega (arith, c, s); key = l.key }

  pub all_keyed : (n : List ℕ) → count n all ≤ 1 → (x : Key) → IsKeyOf x n → (shown : List SyntaxItem) → HavePlaces shown → 1 ≤ sum_by (part_count n) shown → In x (keys_of shown)
  all_keyed n once x is [] h c = absurd (omega (arith, c))
  all_keyed n once x is (item ∷ shown) h c = by (is_shown n item.part) refl (λ l. all_keyed n once x is shown h.1 l)
    where
      by : (b : Bool) → is_shown n item.part ≡ b → (1 ≤ sum_by (part_count n) shown → In x (keys_of shown)) → In x (keys_of (item ∷ shown))
      by true e later = in_left (keys_of shown) (part_keyed n once item.part h.0 e x is)
      by false e later =
          let s = next n item shown in
          let z = hides n item e in
          in_right (own_keys (content all item.part)) (later (omega (arith, s, z, c)))

  -- each name that is shown is shown once
  abbrev pub AreOnce : List SyntaxItem → Type 0
  AreOnce shown = (n : List ℕ) → 1 ≤ sum_by (part_count n) shown → sum_by (part_count n) shown ≤ 1

  once_later : (item : SyntaxItem) (shown : List SyntaxItem) → AreOnce (item ∷ shown) → AreOnce shown
  once_later item shown once = λ n c.
      let s = next n item shown in
      let l = once n (omega (arith, s, c)) in
      omega (arith, s, l)

  pub all_distinct : (shown : List SyntaxItem) → HavePlaces shown → AreOnce shown → Distinct (keys_of shown)
  all_distinct [] h once = none
  all_distinct (item ∷ shown) h once =
      distinct_append (part_distinct item.part) (all_distinct shown h.1 (once_later item shown once))
      (λ x i j. apart x (part_named item.part h.0 x i) (all_named shown h.1 x j))
    where
      apart : (x : Key) → Named item.part x → Shows shown x → ⊥
      apart x p l =
          let same = one_name x p.name l.name p.key l.key in
          let rest : 1 ≤ sum_by (part_count p.name) shown = subst (λ (z : List ℕ). 1 ≤ sum_by (part_count z) shown) (sym same) l.counted in
          let c = shows p.name item p.shown in
          let s = next p.name item shown in
          let most = once p.name (omega (arith, c, s)) in
          absurd (omega (arith, c, s, rest, most))

  -- what is counted is shown, and has its key
  pub some_key : (n : List ℕ) (shown : List SyntaxItem) → HavePlaces shown → 1 ≤ sum_by (part_count n) shown → (x : Key) × IsKeyOf x n
  some_key n [] h c = absurd (omega (arith, c))
  some_key n (item ∷ shown) h c = by (is_shown n item.part) refl (λ l. some_key n shown h.1 l)
    where
      own : (part : SyntaxPart) → HasPlace part → is_shown n part ≡ true → (x : Key) × IsKeyOf x n
      own (parts.Literal text) p e = absurd (cc e)
      own (parts.Number m format) p e = (OfField p.0, p.1 ∙ ap (λ (z : List ℕ). Some z) (sym (same_is n m e)))
      own (parts.Child m) p e = (OfPart p.0, p.1 ∙ ap (λ (z : List ℕ). Some z) (sym (same_is n m e)))

      by : (b : Bool) → is_shown n item.part ≡ b → (1 ≤ sum_by (part_count n) shown → (x : Key) × IsKeyOf x n) → (x : Key) × IsKeyOf x n
      by true e later = own item.part h.0 e
      by false e later =
          let s = next n item shown in
          let z = hides n item e in
          later (omega (arith, s, z, c))
