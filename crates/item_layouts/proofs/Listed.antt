-- Each place stands once among the places.
use Rattle.std.proofs.Common.{◌≡◌, ◌<◌, ◌≤◌, ◌+◌, ◌-◌, ◌∙◌, ℕ, zero, suc, Bool, true, false, cond, not, List, [], ◌∷◌, ◌++◌, Option, None, Some, filter, length, get_or, nat_eq, nat_lt, refl, sym, ap, subst, arith, inl, inr}
use Rattle.std.specs.Prelude.{◌↔◌, option_map, position, slice_get}
use Rattle.std.specs.List.{range_with_len, position_or_len}
use Rattle.std.proofs.lemmas.Bool.{and_parts, and_from, eq-eqb, eqb-true, lt-ltb}
use Rattle.std.proofs.lemmas.List.Quantifiers.{position-Some}
use Rattle.std.proofs.lemmas.Option.{slice_get-map, slice_get-get_or, same_Some}
use Rattle.instruction_trees.specs.Trees.{In, here, there}
use Rattle.instruction_trees.specs.Forms.{Distinct, none, more}
use Rattle.instruction_trees.proofs.Listing.{in_left, in_right, in_append, distinct_append, in_map, from_map, distinct_map, in_flat, from_flat, distinct_flat}
use Rattle.item_layouts.specs.declared.place.ItemPlace.{ItemPlace}
use Rattle.item_layouts.specs.declared.place.ItemPlace.TheVariants.{Register, Field, Word, Bit}
use Rattle.item_layouts.specs.Layouts.{Layout, ItemValues, register_places, boundary_places, field_places, words_from, word_places, stage_places, bit_places, item_places, HasPlace, same_place, place_of, value_at, item_values}

-- ---- ranges and filters

in_range : (a n k : ℕ) → a ≤ k → k < a + n → In k (range_with_len a n)
in_range a zero k l h = absurd (omega (arith, l, h))
in_range a (suc n) k l h = by (nat_eq a k) refl (λ m. in_range (a + 1) n k m (omega (arith, h)))
  where
    by : (b : Bool) → nat_eq a k ≡ b → (a + 1 ≤ k → In k (range_with_len (a + 1) n)) → In k (a ∷ range_with_len (a + 1) n)
    by true e further = subst (λ (m : ℕ). In m (a ∷ range_with_len (a + 1) n)) (eqb-true a k e) here
    by false e further = there (further (apart e))
      where
        apart : nat_eq a k ≡ false → a + 1 ≤ k
        apart e = grind arith

range_in : (a n k : ℕ) → In k (range_with_len a n) → (a ≤ k) × (k < a + n)
range_in a zero k i = elim i [ ]
range_in a (suc n) k here = (omega arith, omega arith)
range_in a (suc n) k (there i) = let t = range_in (a + 1) n k i in (omega (arith, t.0), omega (arith, t.1))

distinct_range : (a n : ℕ) → Distinct (range_with_len a n)
distinct_range a zero = none
distinct_range a (suc n) = more (λ i. (let t = range_in (a + 1) n a i in absurd (omega (arith, t.0)))) (distinct_range (a + 1) n)

module _ (p : ℕ → Bool) where
  in_filter : (xs : List ℕ) (k : ℕ) → In k xs → p k ≡ true → In k (filter p xs)
  in_filter [] k i e = elim i [ ]
  in_filter (x ∷ xs) k here e = subst (λ (b : Bool). In k (cond b (k ∷ filter p xs) (filter p xs))) (sym e) here
  in_filter (x ∷ xs) k (there i) e = by (p x) (in_filter xs k i e)
    where
      by : (b : Bool) → In k (filter p xs) → In k (cond b (x ∷ filter p xs) (filter p xs))
      by true j = there j
      by false j = j

  filter_in : (xs : List ℕ) (k : ℕ) → In k (filter p xs) → In k xs × (p k ≡ true)
  filter_in [] k i = elim i [ ]
  filter_in (x ∷ xs) k i = by (p x) refl i (filter_in xs k)
    where
      first : {ys : List ℕ} (m : ℕ) → p x ≡ true → In m (x ∷ ys) → (In m ys → In m xs × (p m ≡ true)) → In m (x ∷ xs) × (p m ≡ true)
      first m e here rest = (here, e)
      first m e (there j) rest = let t = rest j in (there t.0, t.1)

      by : (b : Bool) → p x ≡ b → In k (cond b (x ∷ filter p xs) (filter p xs)) → (In k (filter p xs) → In k xs × (p k ≡ true)) → In k (x ∷ xs) × (p k ≡ true)
      by true e j rest = first k e j rest
      by false e j rest = let t = rest j in (there t.0, t.1)

  distinct_filter : {xs : List ℕ} → Distinct xs → Distinct (filter p xs)
  distinct_filter none = none
  distinct_filter (more {x = x} {xs = xs} out d) = by (p x) (distinct_filter d)
    where
      by : (b : Bool) → Distinct (filter p xs) → Distinct (cond b (x ∷ filter p xs) (filter p xs))
      by true e = more (λ i. out ((filter_in xs x i).0)) e
      by false e = e

-- ---- the places

module _ (l : Layout) where
  abbrev Rest : List ItemPlace
  Rest = field_places l ++ (word_places l ++ bit_places l)

  words_at : (o : Option ℕ) (s : ℕ) → In (Word s) (words_from l.stages o) → (first : ℕ) × (o ≡ Some first) × (first ≤ s) × (s < l.stages)
  words_at None s i = elim i [ ]
  words_at (Some first) s i =
      let m = from_map Word (range_with_len first (l.stages - first)) i in
      let same : s ≡ m.0 = cc m.2 in
      let r = range_in first (l.stages - first) m.0 m.1 in
      (first, refl, omega (arith, same, r.0), omega (arith, same, r.0, r.1))

  at_words : (o : Option ℕ) (first s : ℕ) → o ≡ Some first → first ≤ s → s < l.stages → In (Word s) (words_from l.stages o)
  at_words None first s e a b = absurd (cc e)
  at_words (Some f) first s e a b = let same : f ≡ first = same_Some f first e in in_map Word (in_range f (l.stages - f) s (omega (arith, a, same)) (omega (arith, a, b, same)))

  pub place_in : (p : ItemPlace) → HasPlace l p → In p (item_places l)
  place_in (Register k) h = in_left Rest (in_map Register (in_range 0 l.registers k (omega arith) (omega (arith, h))))
  place_in (Field b f) h =
      in_right (register_places l)
      (in_left (word_places l ++ bit_places l)
      (in_flat (boundary_places l) (in_range 0 (l.stages - 1) b (omega arith) (omega (arith, h.0))) (in_map (Field b) (in_range 0 l.fields f (omega arith) (omega (arith, h.1))))))
  place_in (Word s) h = in_right (register_places l) (in_right (field_places l) (in_left (bit_places l) (at_words l.words h.0 s h.1 h.2 h.3)))
  place_in (Bit s k) h =
      in_right (register_places l)
      (in_right (field_places l)
      (in_right (word_places l)
      (in_flat (stage_places l) (in_range 0 l.stages s (omega arith) (omega (arith, h.0))) (in_map (Bit s) (in_filter (l.stands s) (range_with_len 0 l.occurrences) k (in_range 0 l.occurrences k (omega arith) (omega (arith, h.1))) h.2)))))

  -- what stands in each part
  register_is : (p : ItemPlace) → In p (register_places l) → (k : ℕ) × (p ≡ Register k) × (k < l.registers)
  register_is p i = let m = from_map Register (range_with_len 0 l.registers) i in let r = range_in 0 l.registers m.0 m.1 in (m.0, m.2, omega (arith, r.1))

  field_is : (p : ItemPlace) → In p (field_places l) → (b f : ℕ) × (p ≡ Field b f) × (b + 1 < l.stages) × (f < l.fields)
  field_is p i =
      let a = from_flat (boundary_places l) (range_with_len 0 (l.stages - 1)) i in
      let m = from_map (Field a.0) (range_with_len 0 l.fields) a.2 in
      let r = range_in 0 (l.stages - 1) a.0 a.1 in
      let q = range_in 0 l.fields m.0 m.1 in
      (a.0, m.0, m.2, omega (arith, r.1), omega (arith, q.1))

  word_is : (p : ItemPlace) → In p (word_places l) → (s : ℕ) × (p ≡ Word s) × HasPlace l (Word s)
  word_is p i = by l.words refl i
    where
      by : (o : Option ℕ) → l.words ≡ o → In p (words_from l.stages o) → (s : ℕ) × (p ≡ Word s) × HasPlace l (Word s)
      by None e j = elim j [ ]
      by (Some first) e j =
          let m = from_map Word (range_with_len first (l.stages - first)) j in
          let r = range_in first (l.stages - first) m.0 m.1 in
          (m.0, m.2, (first, e, omega (arith, r.0), omega (arith, r.0, r.1)))

  bit_is : (p : ItemPlace) → In p (bit_places l) → (s k : ℕ) × (p ≡ Bit s k) × HasPlace l (Bit s k)
  bit_is p i =
      let a = from_flat (stage_places l) (range_with_len 0 l.stages) i in
      let m = from_map (Bit a.0) (filter (l.stands a.0) (range_with_len 0 l.occurrences)) a.2 in
      let r = range_in 0 l.stages a.0 a.1 in
      let f = filter_in (l.stands a.0) (range_with_len 0 l.occurrences) m.0 m.1 in
      let q = range_in 0 l.occurrences m.0 f.0 in
      (a.0, m.0, m.2, (omega (arith, r.1), omega (arith, q.1), f.1))

  pub in_place : (p : ItemPlace) → In p (item_places l) → HasPlace l p
  in_place p i = elim (in_append (register_places l) Rest i) [
    | inl r ↦ (let t = register_is p r in subst (HasPlace l) (sym t.1) t.2)
    | inr j ↦ elim (in_append (field_places l) (word_places l ++ bit_places l) j) [
      | inl f ↦ (let t = field_is p f in subst (HasPlace l) (sym t.2) (t.3, t.4))
      | inr k ↦ elim (in_append (word_places l) (bit_places l) k) [
        | inl w ↦ (let t = word_is p w in subst (HasPlace l) (sym t.1) t.2)
        | inr b ↦ (let t = bit_is p b in subst (HasPlace l) (sym t.2) t.3)
      ]
    ]
  ]

  words_distinct : (o : Option ℕ) → Distinct (words_from l.stages o)
  words_distinct None = none
  words_distinct (Some first) = distinct_map Word (λ x y e. cc e) (distinct_range first (l.stages - first))

  fields_distinct : Distinct (field_places l)
  fields_distinct =
      distinct_flat (boundary_places l)
      (λ x y p i j. (let m = from_map (Field x) (range_with_len 0 l.fields) i in let n = from_map (Field y) (range_with_len 0 l.fields) j in let e : Field x m.0 ≡ Field y n.0 = sym m.2 ∙ n.2 in cc e))
      (λ b. distinct_map (Field b) (λ x y e. cc e) (distinct_range 0 l.fields))
      (distinct_range 0 (l.stages - 1))

  bits_distinct : Distinct (bit_places l)
  bits_distinct =
      distinct_flat (stage_places l)
      (λ x y p i j.
      (let m = from_map (Bit x) (filter (l.stands x) (range_with_len 0 l.occurrences)) i in
      let n = from_map (Bit y) (filter (l.stands y) (range_with_len 0 l.occurrences)) j in
      let e : Bit x m.0 ≡ Bit y n.0 = sym m.2 ∙ n.2 in cc e))
      (λ s. distinct_map (Bit s) (λ x y e. cc e) (distinct_filter (l.stands s) (distinct_range 0 l.occurrences)))
      (distinct_range 0 l.stages)

  pub all_distinct : Distinct (item_places l)
  all_distinct =
      distinct_append (distinct_map Register (λ x y e. cc e) (distinct_range 0 l.registers))
      (distinct_append fields_distinct
      (distinct_append (words_distinct l.words) bits_distinct
      (λ p w b. (let s = word_is p w in let t = bit_is p b in let e : Word s.0 ≡ Bit t.0 t.1 = sym s.1 ∙ t.2 in cc e)))
      (λ p f i. (let s = field_is p f in elim (in_append (word_places l) (bit_places l) i) [
        | inl w ↦ (let t = word_is p w in let e : Field s.0 s.1 ≡ Word t.0 = sym s.2 ∙ t.1 in cc e)
        | inr b ↦ (let t = bit_is p b in let e : Field s.0 s.1 ≡ Bit t.0 t.1 = sym s.2 ∙ t.2 in cc e)
      ])))
      (λ p r i. (let s = register_is p r in elim (in_append (field_places l) (word_places l ++ bit_places l) i) [
        | inl f ↦ (let t = field_is p f in let e : Register s.0 ≡ Field t.0 t.1 = sym s.1 ∙ t.2 in cc e)
        | inr j ↦ elim (in_append (word_places l) (bit_places l) j) [
          | inl w ↦ (let t = word_is p w in let e : Register s.0 ≡ Word t.0 = sym s.1 ∙ t.1 in cc e)
          | inr b ↦ (let t = bit_is p b in let e : Register s.0 ≡ Bit t.0 t.1 = sym s.1 ∙ t.2 in cc e)
        ]
      ]))

-- ---- by numbers

in_number : {X : Type 0} {x : X} {xs : List X} → In x xs → (i : ℕ) × (slice_get xs i ≡ Some x)
in_number here = (0, refl)
in_number (there i) = let t = in_number i in (suc t.0, t.1)

number_in : {X : Type 0} (x : X) (xs : List X) (i : ℕ) → slice_get xs i ≡ Some x → In x xs
number_in x [] i e = absurd (cc e)
number_in {X = X} x (y ∷ xs) zero e = subst (λ (z : X). In z (y ∷ xs)) (same_Some y x e) here
number_in x (y ∷ xs) (suc i) e = there (number_in x xs i e)

one_number : {X : Type 0} {xs : List X} → Distinct xs → (x : X) (i j : ℕ) → slice_get xs i ≡ Some x → slice_get xs j ≡ Some x → i ≡ j
one_number none x i j a b = absurd (cc a)
one_number (more {x = y} {xs = xs} out d) x zero zero a b = refl
one_number {X = X} (more {x = y} {xs = xs} out d) x zero (suc j) a b = absurd (out (subst (λ (z : X). In z xs) (sym (same_Some y x a)) (number_in x xs j b)))
one_number {X = X} (more {x = y} {xs = xs} out d) x (suc i) zero a b = absurd (out (subst (λ (z : X). In z xs) (sym (same_Some y x b)) (number_in x xs i a)))
one_number (more {x = y} {xs = xs} out d) x (suc i) (suc j) a b = ap suc (one_number d x i j a b)

same_is : (p q : ItemPlace) → same_place p q ≡ true → q ≡ p
same_is (Register k) (Register j) e = ap Register (sym (eqb-true k j e))
same_is (Register k) (Field c g) e = absurd (cc e)
same_is (Register k) (Word t) e = absurd (cc e)
same_is (Register k) (Bit t j) e = absurd (cc e)
same_is (Field b f) (Field c g) e = let h = and_parts (nat_eq b c) (nat_eq f g) e in let x = eqb-true b c h.0 in let y = eqb-true f g h.1 in cc (x, y)
same_is (Field b f) (Register j) e = absurd (cc e)
same_is (Field b f) (Word t) e = absurd (cc e)
same_is (Field b f) (Bit t j) e = absurd (cc e)
same_is (Word s) (Word t) e = ap Word (sym (eqb-true s t e))
same_is (Word s) (Register j) e = absurd (cc e)
same_is (Word s) (Field c g) e = absurd (cc e)
same_is (Word s) (Bit t j) e = absurd (cc e)
same_is (Bit s k) (Bit t j) e = let h = and_parts (nat_eq s t) (nat_eq k j) e in let x = eqb-true s t h.0 in let y = eqb-true k j h.1 in cc (x, y)
same_is (Bit s k) (Register j) e = absurd (cc e)
same_is (Bit s k) (Field c g) e = absurd (cc e)
same_is (Bit s k) (Word t) e = absurd (cc e)

itself : (p : ItemPlace) → same_place p p ≡ true
itself (Register k) = eq-eqb k k refl
itself (Field b f) = and_from (nat_eq b b) (nat_eq f f) (eq-eqb b b refl) (eq-eqb f f refl)
itself (Word s) = eq-eqb s s refl
itself (Bit s k) = and_from (nat_eq s s) (nat_eq k k) (eq-eqb s s refl) (eq-eqb k k refl)

first_is : (p : ItemPlace) (xs : List ItemPlace) (i : ℕ) → position (same_place p) xs ≡ Some i → slice_get xs i ≡ Some p
first_is p xs i e =
    let h = position-Some (same_place p) xs i p e in
    slice_get-get_or xs i p h.0 ∙ ap (λ (q : ItemPlace). Some q) (same_is p (get_or xs i p) h.1)

is_somewhere : (p : ItemPlace) (xs : List ItemPlace) → In p xs → (i : ℕ) × (position (same_place p) xs ≡ Some i)
is_somewhere p xs i = by (nat_lt (position_or_len (same_place p) xs) (length xs)) refl
  where
    short : (ys : List ItemPlace) → In p ys → position_or_len (same_place p) ys < length ys
    short [] j = elim j [ ]
    short (y ∷ ys) here = at (same_place y y) (itself y)
      where
        at : (b : Bool) → b ≡ true → cond (not b) (1 + position_or_len (same_place y) ys) 0 < suc (length ys)
        at true e = omega arith
        at false e = absurd (cc e)
    short (y ∷ ys) (there j) = at (same_place p y) (short ys j)
      where
        at : (b : Bool) → position_or_len (same_place p) ys < length ys → cond (not b) (1 + position_or_len (same_place p) ys) 0 < suc (length ys)
        at true h = omega arith
        at false h = omega (arith, h)

    by : (b : Bool) → nat_lt (position_or_len (same_place p) xs) (length xs) ≡ b → (k : ℕ) × (position (same_place p) xs ≡ Some k)
    by true e = (position_or_len (same_place p) xs, ap (λ (b : Bool). cond b (Some (position_or_len (same_place p) xs)) None) e)
    by false e = absurd (let h = short xs i in let t = lt-ltb (position_or_len (same_place p) xs) (length xs) h in cc (sym e ∙ t))

module _ (l : Layout) where
  pub listed : (p : ItemPlace) → HasPlace l p ↔ ((i : ℕ) × (slice_get (item_places l) i ≡ Some p))
  listed p = (λ h. in_number (place_in l p h), λ at. in_place l p (number_in p (item_places l) at.0 at.1))

  pub once : (p : ItemPlace) (i j : ℕ) → slice_get (item_places l) i ≡ Some p → slice_get (item_places l) j ≡ Some p → i ≡ j
  once p i j a b = one_number (all_distinct l) p i j a b

  pub found : (p : ItemPlace) (i : ℕ) → (place_of l p ≡ Some i) ↔ (slice_get (item_places l) i ≡ Some p)
  found p i = (λ e. first_is p (item_places l) i e, λ e. (let t = is_somewhere p (item_places l) (number_in p (item_places l) i e) in t.1 ∙ ap (λ (k : ℕ). Some k) (once p t.0 i (first_is p (item_places l) t.0 t.1) e)))

  pub value_is : (v : ItemValues) (p : ItemPlace) (i : ℕ) → place_of l p ≡ Some i → slice_get (item_values l v) i ≡ Some (value_at v p)
  value_is v p i e = slice_get-map (value_at v) (item_places l) i ∙ ap (option_map (value_at v)) ((found p i).0 e)

  pub same_values : (v w : ItemValues) (p : ItemPlace) → item_values l v ≡ item_values l w → HasPlace l p → value_at v p ≡ value_at w p
  same_values v w p e h =
      let at = (listed p).0 h in
      let number = (found p at.0).1 at.1 in
      same_Some (value_at v p) (value_at w p) (sym (value_is v p at.0 number) ∙ ap (λ (ns : List ℕ). slice_get ns at.0) e ∙ value_is w p at.0 number)
