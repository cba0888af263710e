-- The first of a list that is wrong.
use Rattle.std.proofs.Common.{◌≡◌, zero, suc, List, [], ◌∷◌, ◌++◌, Option, Some, None, map, refl, sym, ap, ap₂, subst, ◌∙◌, arith}
use Rattle.std.specs.Prelude.{All}
use Rattle.std.specs.Option.{option_or}
use Rattle.verilog_text.specs.Conditions.{IsFirst}
use Rattle.verilog_size_checks.specs.Sought.{first_of}

pub or_assoc : {A : Type 0} (a b c : Option A) → option_or (option_or a b) c ≡ option_or a (option_or b c)
or_assoc None b c = refl
or_assoc (Some x) b c = refl

pub first_append : {A B : Type 0} (f : A → Option B) (xs ys : List A) → first_of f (xs ++ ys) ≡ option_or (first_of f xs) (first_of f ys)
first_append f [] ys = refl
first_append f (x ∷ xs) ys = ap (option_or (f x)) (first_append f xs ys) ∙ sym (or_assoc (f x) (first_of f xs) (first_of f ys))

pub first_map : {A B C : Type 0} (f : B → Option C) (g : A → B) (xs : List A) → first_of f (map g xs) ≡ first_of (λ x. f (g x)) xs
first_map f g [] = refl
first_map f g (x ∷ xs) = ap (option_or (f (g x))) (first_map f g xs)

pub first_same : {A B : Type 0} (f g : A → Option B) → ((x : A) → f x ≡ g x) → (xs : List A) → first_of f xs ≡ first_of g xs
first_same f g same [] = refl
first_same f g same (x ∷ xs) = ap₂ option_or (same x) (first_same f g same xs)

left_none : {A : Type 0} (a b : Option A) → option_or a b ≡ None → a ≡ None
left_none None b is = refl
left_none (Some x) b is = absurd cc

right_none : {A : Type 0} (a b : Option A) → option_or a b ≡ None → b ≡ None
right_none None b is = is
right_none (Some x) b is = absurd cc

none_behind : {A B : Type 0} (f : A → Option B) (front : List A) (x : A) (rest : List A) → first_of f (front ++ x ∷ rest) ≡ None → f x ≡ None
none_behind f [] x rest is = left_none (f x) (first_of f rest) is
none_behind f (y ∷ front) x rest is = none_behind f front x rest (right_none (f y) (first_of f (front ++ x ∷ rest)) is)

-- where nothing is found, nothing is the first that is wrong
pub none_is_first : {A B : Type 0} (f : A → Option B) (P : A → Type 0) → ((x : A) → P x → f x ≡ None → ⊥) → (xs : List A) → first_of f xs ≡ None → (x : A) → ¬ IsFirst P xs x
none_is_first f P wrong xs none x first = wrong x first.here (none_behind f first.front x first.rest (subst (λ ys. first_of f ys ≡ None) first.parts none))

no_element : {A : Type 0} (P : A → Type 0) → All P []
no_element P k d within = absurd (omega arith)

one_element : {A : Type 0} (P : A → Type 0) (x : A) (xs : List A) → P x → All P xs → All P (x ∷ xs)
one_element P x xs here rest zero d within = here
one_element P x xs here rest (suc k) d within = rest k d (omega arith)

first_behind : {A : Type 0} (P : A → Type 0) (x : A) (xs : List A) (y : A) → (P x → ⊥) → IsFirst P xs y → IsFirst P (x ∷ xs) y
first_behind P x xs y never first = record {
  front = x ∷ first.front;
  rest = first.rest;
  parts = ap (λ (zs : List _). x ∷ zs) first.parts;
  here = first.here;
  before = one_element (λ z. ¬ P z) x first.front never first.before;
}

-- what is found is told of the first that is wrong
pub found_is_first : {A B : Type 0} (f : A → Option B) (P : A → Type 0) → ((x : A) → P x → f x ≡ None → ⊥) → ((x : A) (b : B) → f x ≡ Some b → P x) → (xs : List A) (b : B) → first_of f xs ≡ Some b
    → (x : A) × IsFirst P xs x × (f x ≡ Some b)
found_is_first f P wrong right [] b is = absurd cc
found_is_first {A} {B} f P wrong right (x ∷ xs) b is = go (f x) refl is (found_is_first f P wrong right xs b)
  where
    go : (o : Option B) → f x ≡ o → option_or o (first_of f xs) ≡ Some b → (first_of f xs ≡ Some b → (y : A) × IsFirst P xs y × (f y ≡ Some b))
        → (y : A) × IsFirst P (x ∷ xs) y × (f y ≡ Some b)
    go None none later further =
        let found = further later in
        (found.0, first_behind P x xs found.0 (λ p. wrong x p none) found.1, found.2)
    go (Some c) some here further = (x, record { front = []; rest = xs; parts = refl; here = right x c some; before = no_element (λ z. ¬ P z) }, some ∙ here)
