-- The first of a list of which a fact holds, found by a test.
use Rattle.std.proofs.Common.{◌≡◌, ℕ, zero, suc, Bool, true, false, cond, List, [], ◌∷◌, ◌++◌, Option, Some, None, refl, sym, ap, subst, ◌∙◌, arith, true≢false}
use Rattle.std.specs.Prelude.{All, find, option_map, is_some, unwrap_or, map}
use Rattle.verilog_text.specs.Conditions.{IsFirst}

some_not_none : {A : Type 0} (x : A) → Some x ≡ None → ⊥
some_not_none x is = true≢false (ap is_some is)

some_same : {A : Type 0} (x y : A) → Some x ≡ Some y → x ≡ y
some_same x y is = ap (λ (o : Option _). unwrap_or o x) is

no_element : {A : Type 0} (P : A → Type 0) → All P []
no_element P k d within = absurd (omega arith)

one_element : {A : Type 0} (P : A → Type 0) (x : A) (xs : List A) → P x → All P xs → All P (x ∷ xs)
one_element P x xs here rest zero d within = here
one_element P x xs here rest (suc k) d within = rest k d (omega arith)

first_behind : {A : Type 0} (P : A → Type 0) (x : A) (xs : List A) (y : A) → (P x → ⊥) → IsFirst P xs y → IsFirst P (x ∷ xs) y
first_behind P x xs y never first = record {
  front = x ∷ first.front;
  rest = first.rest;
  parts = ap (λ (zs : List _). x ∷ zs) first.parts;
  here = first.here;
  before = one_element (λ z. ¬ P z) x first.front never first.before;
}

first_here : {A : Type 0} (P : A → Type 0) (x : A) (xs : List A) → P x → IsFirst P (x ∷ xs) x
first_here P x xs here = record { front = []; rest = xs; parts = refl; here = here; before = no_element (λ z. ¬ P z) }

-- a test that decides a fact
pub record Decides {A : Type 0} (P : A → Type 0) (p : A → Bool) : Type 0 where
  pub yes : (x : A) → p x ≡ true → P x
  pub no : (x : A) → P x → p x ≡ true

pub found_first : {A : Type 0} (P : A → Type 0) (p : A → Bool) → Decides P p → (xs : List A) (x : A) → find p xs ≡ Some x → IsFirst P xs x
found_first P p d [] x is = absurd (some_not_none x (sym is))
found_first {A = A} P p d (y ∷ ys) x is = go (p y) refl is (found_first P p d ys x)
  where
    go : (b : Bool) → p y ≡ b → cond b (Some y) (find p ys) ≡ Some x → (find p ys ≡ Some x → IsFirst P ys x) → IsFirst P (y ∷ ys) x
    go true here found later = subst (λ (z : A). IsFirst P (y ∷ ys) z) (some_same y x found) (first_here P y ys (d.yes y here))
    go false past found later = first_behind P y ys x (λ holds. true≢false (sym (d.no y holds) ∙ past)) (later found)

none_at : {A : Type 0} (p : A → Bool) (front rest : List A) (x : A) → find p (front ++ x ∷ rest) ≡ None → p x ≡ true → ⊥
none_at p [] rest x none holds = some_not_none x (sym (ap (λ (b : Bool). cond b (Some x) (find p rest)) holds) ∙ none)
none_at p (y ∷ front) rest x none holds = go (p y) none (λ is. none_at p front rest x is holds)
  where
    go : (b : Bool) → cond b (Some y) (find p (front ++ x ∷ rest)) ≡ None → (find p (front ++ x ∷ rest) ≡ None → ⊥) → ⊥
    go true is later = some_not_none y is
    go false is later = later is

pub found_none : {A : Type 0} (P : A → Type 0) (p : A → Bool) → Decides P p → (xs : List A) → find p xs ≡ None → (x : A) → ¬ IsFirst P xs x
found_none {A = A} P p d xs none x first =
    none_at p first.front first.rest x (sym (ap (λ (zs : List A). find p zs) first.parts) ∙ none) (d.no x first.here)

-- ---- a fact of names, and the first such name that is told

abbrev pub Tells : (List ℕ → Type 0) → Option (List ℕ) → Type 0
Tells P (Some name) = P name
Tells P None = (name : List ℕ) → ¬ P name

pub tells_by : {A : Type 0} (P : A → Type 0) (p : A → Bool) → Decides P p → (f : A → List ℕ) (xs : List A)
    → Tells (λ name. (x : A) × IsFirst P xs x × (f x ≡ name)) (option_map f (find p xs))
tells_by {A = A} P p d f xs = go (find p xs) refl
  where
    go : (o : Option A) → find p xs ≡ o → Tells (λ name. (x : A) × IsFirst P xs x × (f x ≡ name)) (option_map f o)
    go None none = λ name first. found_none P p d xs none first.0 first.1
    go (Some x) found = (x, found_first P p d xs x found, refl)

pub find_same : {A : Type 0} (p q : A → Bool) → ((x : A) → p x ≡ q x) → (xs : List A) → find p xs ≡ find q xs
find_same p q same [] = refl
find_same {A = A} p q same (x ∷ xs) = ap (λ (b : Bool). cond b (Some x) (find p xs)) (same x) ∙ ap (λ (o : Option A). cond (q x) (Some x) o) (find_same p q same xs)

pub find_map : {A B : Type 0} (p : B → Bool) (f : A → B) (xs : List A) → find p (map f xs) ≡ option_map f (find (λ x. p (f x)) xs)
find_map p f [] = refl
find_map {A = A} {B = B} p f (x ∷ xs) = ap (λ (o : Option B). cond (p (f x)) (Some (f x)) o) (find_map p f xs) ∙ go (p (f x))
  where
    go : (b : Bool) → cond b (Some (f x)) (option_map f (find (λ (y : A). p (f y)) xs)) ≡ option_map f (cond b (Some x) (find (λ (y : A). p (f y)) xs))
    go true = refl
    go false = refl

-- ---- what an answer tells

pub none_of : (o : Option (List ℕ)) → ((x : List ℕ) → o ≡ Some x → ⊥) → o ≡ None
none_of None never = refl
none_of (Some x) never = absurd (never x refl)

pub told_some : (P : List ℕ → Type 0) (o : Option (List ℕ)) (name : List ℕ) → Tells P o → o ≡ Some name → P name
told_some P o name tells is = subst (Tells P) is tells

pub told_none : (P : List ℕ → Type 0) (o : Option (List ℕ)) → Tells P o → ((x : List ℕ) → o ≡ Some x → ⊥) → (name : List ℕ) → ¬ P name
told_none P o tells never = subst (Tells P) (none_of o never) tells
