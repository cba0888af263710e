-- Things with names of their own, and what is in lists of them.
use Rattle.std.proofs.Common.{◌≡◌, ◌≢◌, ◌<◌, ◌⊎◌, inl, inr, ℕ, zero, suc, Bool, true, false, cond, List, [], ◌∷◌, length, map, filter, refl, sym, subst, arith}
use Rattle.std.specs.Prelude.{AllPairs, Contains, slice_index_or, ◌||◌}
use Rattle.std.specs.List.{AllByRecursion, list_any}
use Rattle.std.specs.Str.{bytes_eq}
use Rattle.std.proofs.lemmas.List.Elements.{recursion_from_All}
use Rattle.std.proofs.lemmas.Slice.Eq.{bytes_eq-Decides}
use Rattle.instruction_trees.specs.Trees.{In, here, there}

-- ---- names

pub same_name : (n : List ℕ) → bytes_eq n n ≡ true
same_name n = (bytes_eq-Decides n n).1 refl

pub one_name : (n m : List ℕ) → bytes_eq n m ≡ true → n ≡ m
one_name n m e = (bytes_eq-Decides n m).0 e

pub other_name : (n m : List ℕ) → n ≢ m → bytes_eq n m ≡ false
other_name n m apart = by (bytes_eq n m) refl
  where
    by : (b : Bool) → bytes_eq n m ≡ b → bytes_eq n m ≡ false
    by true e = absurd (apart (one_name n m e))
    by false e = e

-- ---- lists

pub in_all : {A : Type 0} (P : A → Type 0) (xs : List A) (x : A) → AllByRecursion P xs → In x xs → P x
in_all P [] x all i = elim i [ ]
in_all P (y ∷ xs) x all (here) = all.0
in_all P (y ∷ xs) x all (there i) = in_all P xs x all.1 i

pub all_in : {A : Type 0} (P : A → Type 0) (xs : List A) → ((x : A) → In x xs → P x) → AllByRecursion P xs
all_in P [] f = tt
all_in P (x ∷ xs) f = (f x here, all_in P xs (λ y i. f y (there i)))

pub in_contains : {A : Type 0} (xs : List A) (x : A) → In x xs → Contains xs x
in_contains [] x i = elim i [ ]
in_contains (y ∷ xs) x (here) = (zero, omega arith, refl)
in_contains (y ∷ xs) x (there i) = let r = in_contains xs x i in let low = r.1 in (suc r.0, omega (arith, low), r.2)

at_in : {A : Type 0} (xs : List A) (k : ℕ) (x d : A) → k < length xs → slice_index_or xs k d ≡ x → In x xs
at_in [] k x d low e = absurd (omega (arith, low))
at_in {A = A} (y ∷ xs) zero x d low e = subst (λ (z : A). In z (y ∷ xs)) e here
at_in (y ∷ xs) (suc k) x d low e = there (at_in xs k x d (omega (arith, low)) e)

pub contains_in : {A : Type 0} (xs : List A) (x : A) → Contains xs x → In x xs
contains_in xs x c = at_in xs c.0 x x c.1 c.2

pub any_in : {A : Type 0} (p : A → Bool) (xs : List A) → list_any p xs ≡ true → (x : A) × In x xs × (p x ≡ true)
any_in p [] h = absurd (cc h)
any_in {A = A} p (x ∷ xs) h = by (p x) refl h (any_in p xs)
  where
    by : (b : Bool) → p x ≡ b → (b || list_any p xs) ≡ true → (list_any p xs ≡ true → (y : A) × In y xs × (p y ≡ true)) → (y : A) × In y (x ∷ xs) × (p y ≡ true)
    by true e g later = (x, here, e)
    by false e g later = let r = later g in (r.0, there r.1, r.2)

first_or : {A : Type 0} (x y : A) (xs : List A) → In y (x ∷ xs) → (y ≡ x) ⊎ In y xs
first_or x y xs (here) = inl refl
first_or x y xs (there i) = inr i

-- what passes a test among what is made of a list

pub filter_in : {A B : Type 0} (p : B → Bool) (f : A → B) (Q : B → Type 0) (xs : List A) → ((x : A) → In x xs → p (f x) ≡ true → Q (f x)) → (y : B) → In y (filter p (map f xs)) → Q y
filter_in p f Q [] each y i = elim i [ ]
filter_in p f Q (x ∷ xs) each y i = by (p (f x)) refl i (filter_in p f Q xs (λ z j. each z (there j)) y)
  where
    by : (b : Bool) → p (f x) ≡ b → In y (cond b (f x ∷ filter p (map f xs)) (filter p (map f xs))) → (In y (filter p (map f xs)) → Q y) → Q y
    by true e j later = elim (first_or (f x) y (filter p (map f xs)) j) [ inl same ↦ subst Q (sym same) (each x here e) | inr k ↦ later k ]
    by false e j later = later j

pub in_filter : {A B : Type 0} (p : B → Bool) (f : A → B) (xs : List A) (x : A) → In x xs → p (f x) ≡ true → In (f x) (filter p (map f xs))
in_filter p f [] x i e = elim i [ ]
in_filter p f (y ∷ xs) x (here) e = subst (λ (b : Bool). In (f x) (cond b (f x ∷ filter p (map f xs)) (filter p (map f xs)))) (sym e) here
in_filter p f (y ∷ xs) x (there i) e = by (p (f y)) (in_filter p f xs x i e)
  where
    by : (b : Bool) → In (f x) (filter p (map f xs)) → In (f x) (cond b (f y ∷ filter p (map f xs)) (filter p (map f xs)))
    by true j = there j
    by false j = j

-- ---- no two have one name

module _ {A : Type 0} (name : A → List ℕ) where
  abbrev pub Apart : List A → Type 0
  Apart [] = Unit {0}
  Apart (x ∷ xs) = AllByRecursion (λ (y : A). name x ≢ name y) xs × Apart xs

  pub apart_of : (xs : List A) → AllPairs (λ (a b : A). name a ≢ name b) xs → Apart xs
  apart_of [] h = tt
  apart_of (x ∷ xs) h = (
    recursion_from_All (λ (y : A). name x ≢ name y) xs (λ k d low. h zero (suc k) d (omega arith) (omega (arith, low))),
    apart_of xs (λ i j d less low. h (suc i) (suc j) d (omega (arith, less)) (omega (arith, low))),
  )

  pub one_named : (xs : List A) → Apart xs → (x y : A) → In x xs → In y xs → name x ≡ name y → x ≡ y
  one_named [] apart x y i j e = elim i [ ]
  one_named (z ∷ xs) apart x y (here) (here) e = refl
  one_named (z ∷ xs) apart x y (here) (there j) e = absurd (in_all (λ (v : A). name x ≢ name v) xs y apart.0 j e)
  one_named (z ∷ xs) apart x y (there i) (here) e = absurd (in_all (λ (v : A). name y ≢ name v) xs x apart.0 i (sym e))
  one_named (z ∷ xs) apart x y (there i) (there j) e = one_named xs apart.1 x y i j e
