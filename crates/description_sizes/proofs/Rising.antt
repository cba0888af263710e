-- Two lists of rising numbers with the same elements are one.
use Rattle.std.proofs.Common.{◌≡◌, ◌≢◌, ◌<◌, ◌≤◌, ◌+◌, ◌||◌, ℕ, zero, suc, List, [], ◌∷◌, Bool, true, false, cond, nat_eq, get_or, filter, refl, ap, ap₂, sym, ◌∙◌, arith, subst, inl, inr, ⊎_elim, ◌⊎◌}
use Rattle.std.specs.List.{AllByRecursion, list_any, range_with_len}
use Rattle.std.specs.List.Sorted.{IsStrictlyIncreasing}
use Rattle.std.proofs.lemmas.Bool.{cases_eq, eq-eqb, ne_eqb, eqb-true, or_cases, or_left, or_right, false_from_ne_true}
use Rattle.graph_paths.specs.Paths.{is_in}

-- ---- rising by recursion

abbrev pub Above : ℕ → List ℕ → Type 0
Above x xs = AllByRecursion (λ y. x < y) xs

abbrev pub Rises : List ℕ → Type 0
Rises [] = Unit {0}
Rises (x ∷ xs) = Above x xs × Rises xs

above_more : (x y : ℕ) (ys : List ℕ) → x < y → Above y ys → Above x ys
above_more x y [] h a = tt
above_more x y (z ∷ zs) h a = (let l = a.0 in omega (arith, h, l), above_more x y zs h a.1)

pub rises : (xs : List ℕ) → IsStrictlyIncreasing xs → Rises xs
rises [] h = tt
rises (x ∷ []) h = (tt, tt)
rises (x ∷ y ∷ ys) h =
    let tail : IsStrictlyIncreasing (y ∷ ys) = λ k l. (let e : suc k + 1 ≡ suc (k + 1) = omega arith in subst (λ (n : ℕ). get_or (y ∷ ys) k 0 < get_or (x ∷ y ∷ ys) n 0) e (h (suc k) (omega (arith, l)))) in
    let more = rises (y ∷ ys) tail in
    let first : x < y = h 0 (omega arith) in
    ((first, above_more x y ys first more.0), more)

-- ---- elements

pub in_above : (x a : ℕ) (xs : List ℕ) → Above x xs → is_in a xs ≡ true → x < a
in_above x a [] h e = absurd (cc e)
in_above x a (y ∷ ys) h e = elim (or_cases (nat_eq a y) (is_in a ys) e) [
  | inl same ↦ (let s : a ≡ y = eqb-true a y same in let l = h.0 in omega (arith, s, l))
  | inr later ↦ in_above x a ys h.1 later
]

not_above : (x : ℕ) (xs : List ℕ) → Above x xs → is_in x xs ≡ false
not_above x xs h = false_from_ne_true (is_in x xs) (λ e. let l = in_above x x xs h e in absurd (omega (arith, l)))

first_in : (x : ℕ) (xs : List ℕ) → is_in x (x ∷ xs) ≡ true
first_in x xs = or_left (nat_eq x x) (is_in x xs) (eq-eqb x x refl)

behind : (a x : ℕ) (xs : List ℕ) → a ≢ x → is_in a (x ∷ xs) ≡ is_in a xs
behind a x xs ne = ap (λ (b : Bool). b || is_in a xs) (ne_eqb a x ne)

no_lower : (x y : ℕ) (xs ys : List ℕ) → Above x xs → Above y ys → is_in x (y ∷ ys) ≡ true → is_in y (x ∷ xs) ≡ true → x ≡ y
no_lower x y xs ys h k e f = elim (or_cases (nat_eq x y) (is_in x ys) e) [
  | inl same ↦ eqb-true x y same
  | inr later ↦ (
      let l = in_above y x ys k later in
      elim (or_cases (nat_eq y x) (is_in y xs) f) [
        | inl same ↦ sym (eqb-true y x same)
        | inr other ↦ (let m = in_above x y xs h other in absurd (omega (arith, l, m)))
      ])
]

pub same_list : (xs ys : List ℕ) → Rises xs → Rises ys → ((a : ℕ) → is_in a xs ≡ is_in a ys) → xs ≡ ys
same_list [] [] h k e = refl
same_list [] (y ∷ ys) h k e = let t = first_in y ys in absurd (cc (e y, t))
same_list (x ∷ xs) [] h k e = let t = first_in x xs in absurd (cc (e x, t))
same_list (x ∷ xs) (y ∷ ys) h k e =
    ap₂ (λ (z : ℕ) (zs : List ℕ). z ∷ zs) first (same_list xs ys h.1 k.1 rest)
  where
    first : x ≡ y
    first = no_lower x y xs ys h.0 k.0 (sym (e x) ∙ first_in x xs) (e y ∙ first_in y ys)

    rest : (a : ℕ) → is_in a xs ≡ is_in a ys
    rest a = ⊎_elim
        (λ (s : a ≡ x). ap (λ (z : ℕ). is_in z xs) s ∙ not_above x xs h.0 ∙ sym (not_above y ys k.0) ∙ ap (λ (z : ℕ). is_in z ys) (sym (s ∙ first)))
        (λ (ne : a ≢ x). sym (behind a x xs ne) ∙ e a ∙ behind a y ys (λ s. ne (s ∙ sym first)))
        (cases_eq a x)

-- ---- the numbers of a range that pass a test

range_above : (n low x : ℕ) → x < low → Above x (range_with_len low n)
range_above zero low x h = tt
range_above (suc n) low x h = (h, range_above n (low + 1) x (omega (arith, h)))

range_rises : (n low : ℕ) → Rises (range_with_len low n)
range_rises zero low = tt
range_rises (suc n) low = (range_above n (low + 1) low (omega arith), range_rises n (low + 1))

filter_above : (p : ℕ → Bool) (x : ℕ) (xs : List ℕ) → Above x xs → Above x (filter p xs)
filter_above p x [] h = tt
filter_above p x (y ∷ ys) h = at (p y) (filter_above p x ys h.1)
  where
    at : (b : Bool) → Above x (filter p ys) → Above x (cond b (y ∷ filter p ys) (filter p ys))
    at true more = (h.0, more)
    at false more = more

filter_rises : (p : ℕ → Bool) (xs : List ℕ) → Rises xs → Rises (filter p xs)
filter_rises p [] h = tt
filter_rises p (y ∷ ys) h = at (p y) (filter_rises p ys h.1)
  where
    at : (b : Bool) → Rises (filter p ys) → Rises (cond b (y ∷ filter p ys) (filter p ys))
    at true more = (filter_above p y ys h.0, more)
    at false more = more

pub passing_rise : (p : ℕ → Bool) (n : ℕ) → Rises (filter p (range_with_len 0 n))
passing_rise p n = filter_rises p (range_with_len 0 n) (range_rises n 0)

in_range : (n low a : ℕ) → low ≤ a → a < low + n → is_in a (range_with_len low n) ≡ true
in_range zero low a h k = absurd (omega (arith, h, k))
in_range (suc n) low a h k = ⊎_elim
    (λ (s : a ≡ low). or_left (nat_eq a low) (is_in a (range_with_len (low + 1) n)) (eq-eqb a low s))
    (λ (ne : a ≢ low). or_right (nat_eq a low) (is_in a (range_with_len (low + 1) n)) (in_range n (low + 1) a (omega (arith, h, ne)) (omega (arith, k))))
    (cases_eq a low)

filter_has : (p : ℕ → Bool) (xs : List ℕ) (a : ℕ) → p a ≡ true → is_in a xs ≡ true → is_in a (filter p xs) ≡ true
filter_has p [] a t e = e
filter_has p (x ∷ xs) a t e = at (p x) refl (or_cases (nat_eq a x) (is_in a xs) e) (λ later. filter_has p xs a t later)
  where
    at : (b : Bool) → p x ≡ b → (nat_eq a x ≡ true) ⊎ (is_in a xs ≡ true) → (is_in a xs ≡ true → is_in a (filter p xs) ≡ true) → is_in a (cond b (x ∷ filter p xs) (filter p xs)) ≡ true
    at true is (inl same) more = or_left (nat_eq a x) (is_in a (filter p xs)) same
    at true is (inr later) more = or_right (nat_eq a x) (is_in a (filter p xs)) (more later)
    at false is (inl same) more = (let s : a ≡ x = eqb-true a x same in absurd (cc (is, sym (ap p s) ∙ t)))
    at false is (inr later) more = more later

pub filter_passes : (p : ℕ → Bool) (xs : List ℕ) (a : ℕ) → is_in a (filter p xs) ≡ true → p a ≡ true
filter_passes p [] a e = absurd (cc e)
filter_passes p (x ∷ xs) a e = at (p x) refl e (filter_passes p xs a)
  where
    at : (b : Bool) → p x ≡ b → is_in a (cond b (x ∷ filter p xs) (filter p xs)) ≡ true → (is_in a (filter p xs) ≡ true → p a ≡ true) → p a ≡ true
    at true is h more = elim (or_cases (nat_eq a x) (is_in a (filter p xs)) h) [ inl same ↦ ap p (eqb-true a x same) ∙ is | inr later ↦ more later ]
    at false is h more = more h

pub filter_in : (p : ℕ → Bool) (xs : List ℕ) (a : ℕ) → is_in a (filter p xs) ≡ true → is_in a xs ≡ true
filter_in p [] a e = e
filter_in p (x ∷ xs) a e = at (p x) e (filter_in p xs a)
  where
    at : (b : Bool) → is_in a (cond b (x ∷ filter p xs) (filter p xs)) ≡ true → (is_in a (filter p xs) ≡ true → is_in a xs ≡ true) → (nat_eq a x || is_in a xs) ≡ true
    at true h more = elim (or_cases (nat_eq a x) (is_in a (filter p xs)) h) [ inl same ↦ or_left (nat_eq a x) (is_in a xs) same | inr later ↦ or_right (nat_eq a x) (is_in a xs) (more later) ]
    at false h more = or_right (nat_eq a x) (is_in a xs) (more h)

pub passing_has : (p : ℕ → Bool) (n a : ℕ) → a < n → p a ≡ true → is_in a (filter p (range_with_len 0 n)) ≡ true
passing_has p n a h t = filter_has p (range_with_len 0 n) a t (in_range n 0 a (omega arith) (omega (arith, h)))

-- ---- some number of a range passes a test

some_from : (p : ℕ → Bool) (n low a : ℕ) → low ≤ a → a < low + n → p a ≡ true → list_any p (range_with_len low n) ≡ true
some_from p zero low a h k t = absurd (omega (arith, h, k))
some_from p (suc n) low a h k t = ⊎_elim
    (λ (s : a ≡ low). or_left (p low) (list_any p (range_with_len (low + 1) n)) (sym (ap p s) ∙ t))
    (λ (ne : a ≢ low). or_right (p low) (list_any p (range_with_len (low + 1) n)) (some_from p n (low + 1) a (omega (arith, h, ne)) (omega (arith, k)) t))
    (cases_eq a low)

pub some_below : (p : ℕ → Bool) (n a : ℕ) → a < n → p a ≡ true → list_any p (range_with_len 0 n) ≡ true
some_below p n a h t = some_from p n 0 a (omega arith) (omega (arith, h)) t

pub some_of : (p : ℕ → Bool) (xs : List ℕ) → list_any p xs ≡ true → (a : ℕ) × (p a ≡ true)
some_of p [] e = absurd (cc e)
some_of p (x ∷ xs) e = elim (or_cases (p x) (list_any p xs) e) [ inl here ↦ (x, here) | inr later ↦ some_of p xs later ]
