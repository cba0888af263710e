-- Names that are pairwise different.
use Rattle.std.proofs.Common.{◌≡◌, ◌≢◌, ℕ, zero, suc, ◌<◌, List, [], ◌∷◌, ◌++◌, length, map, get_or, refl, sym, ap, ◌∙◌, subst, arith, ◌⊎◌, inl, inr, ⊎_elim}
use Rattle.std.specs.Prelude.{All, AllPairs, Contains, slice_index_or}
use Rattle.std.specs.Str.{bytes_eq}
use Rattle.std.proofs.lemmas.Bool.{cases_Bool, false≢true}
use Rattle.std.proofs.lemmas.Slice.Eq.{bytes_eq-Decides}
use Rattle.verilog_text.specs.Conditions.{IsFirst, with_earlier}

-- a name among names
abbrev pub Has : List (List ℕ) → List ℕ → Type 0
Has [] x = ⊥
Has (y ∷ ys) x = (y ≡ x) ⊎ Has ys x

-- no two of the names are the same
abbrev pub AreApart : List (List ℕ) → Type 0
AreApart [] = Unit {0}
AreApart (x ∷ xs) = (Has xs x → ⊥) × AreApart xs

pub has_front : (xs ys : List (List ℕ)) (x : List ℕ) → Has xs x → Has (xs ++ ys) x
has_front [] ys x has = absurd has
has_front (y ∷ xs) ys x has = ⊎_elim (λ is. inl is) (λ later. inr (has_front xs ys x later)) has

pub has_back : (xs ys : List (List ℕ)) (x : List ℕ) → Has ys x → Has (xs ++ ys) x
has_back [] ys x has = has
has_back (y ∷ xs) ys x has = inr (has_back xs ys x has)

pub has_either : (xs ys : List (List ℕ)) (x : List ℕ) → Has (xs ++ ys) x → Has xs x ⊎ Has ys x
has_either [] ys x has = inr has
has_either (y ∷ xs) ys x has = ⊎_elim (λ is. inl (inl is)) (λ later. ⊎_elim (λ one. inl (inr one)) (λ other. inr other) (has_either xs ys x later)) has

pub apart_append : (xs ys : List (List ℕ)) → AreApart xs → AreApart ys → ((x : List ℕ) → Has xs x → Has ys x → ⊥) → AreApart (xs ++ ys)
apart_append [] ys apart other no_both = other
apart_append (x ∷ xs) ys apart other no_both =
    ((λ has. ⊎_elim apart.0 (no_both x (inl refl)) (has_either xs ys x has)), apart_append xs ys apart.1 other (λ y here there. no_both y (inr here) there))

pub apart_front : (xs ys : List (List ℕ)) → AreApart (xs ++ ys) → AreApart xs
apart_front [] ys apart = tt
apart_front (x ∷ xs) ys apart = ((λ has. apart.0 (has_front xs ys x has)), apart_front xs ys apart.1)

pub apart_back : (xs ys : List (List ℕ)) → AreApart (xs ++ ys) → AreApart ys
apart_back [] ys apart = apart
apart_back (x ∷ xs) ys apart = apart_back xs ys apart.1

pub apart_both : (xs ys : List (List ℕ)) → AreApart (xs ++ ys) → (x : List ℕ) → Has xs x → Has ys x → ⊥
apart_both [] ys apart x here there = here
apart_both (y ∷ xs) ys apart x here there =
    ⊎_elim (λ is. apart.0 (subst (λ (n : List ℕ). Has (xs ++ ys) n) (sym is) (has_back xs ys x there))) (λ later. apart_both xs ys apart.1 x later there) here

-- names by their places
has_at : {X : Type 0} (f : X → List ℕ) (xs : List X) (k : ℕ) (d : X) → k < length xs → Has (map f xs) (f (get_or xs k d))
has_at f [] k d within = absurd (omega arith)
has_at f (x ∷ xs) zero d within = inl refl
has_at f (x ∷ xs) (suc k) d within = inr (has_at f xs k d (omega arith))

pub apart_pairs : {X : Type 0} (f : X → List ℕ) (xs : List X) → AreApart (map f xs) → AllPairs (λ (a b : X). f a ≢ f b) xs
apart_pairs f [] apart i j d less within same = absurd (omega arith)
apart_pairs f (x ∷ xs) apart zero zero d less within same = absurd (omega arith)
apart_pairs f (x ∷ xs) apart zero (suc j) d less within same = apart.0 (subst (λ (n : List ℕ). Has (map f xs) n) (sym same) (has_at f xs j d (omega arith)))
apart_pairs f (x ∷ xs) apart (suc i) zero d less within same = absurd (omega arith)
apart_pairs f (x ∷ xs) apart (suc i) (suc j) d less within same = apart_pairs f xs apart.1 i j d (omega arith) (omega arith) same

-- ---- what isn't first anywhere is nowhere

decided : (y x : List ℕ) → (y ≡ x) ⊎ ((y ≡ x) → ⊥)
decided y x = ⊎_elim (λ yes. inl ((bytes_eq-Decides y x).0 yes)) (λ other. inr (λ is. false≢true (sym other ∙ (bytes_eq-Decides y x).1 is))) (cases_Bool (bytes_eq y x))

pub has_or_not : (xs : List (List ℕ)) (x : List ℕ) → Has xs x ⊎ (Has xs x → ⊥)
has_or_not [] x = inr (λ has. has)
has_or_not (y ∷ xs) x = ⊎_elim (λ is. inl (inl is)) (λ differ. ⊎_elim (λ later. inl (inr later)) (λ never. inr (λ has. ⊎_elim differ never has)) (has_or_not xs x)) (decided y x)

pub has_contains : (xs : List (List ℕ)) (x : List ℕ) → Has xs x → Contains xs x
has_contains [] x has = absurd has
has_contains (y ∷ xs) x has = ⊎_elim (λ is. (0, omega arith, is)) (λ later. let c = has_contains xs x later in (suc c.0, omega (arith, c.1), c.2)) has

pub contains_has : (xs : List (List ℕ)) (x : List ℕ) (k : ℕ) → k < length xs → slice_index_or xs k x ≡ x → Has xs x
contains_has [] x k within is = absurd (omega arith)
contains_has (y ∷ xs) x zero within is = inl is
contains_has (y ∷ xs) x (suc k) within is = inr (contains_has xs x k (omega arith) is)

no_element : {X : Type 0} (P : X → Type 0) → All P []
no_element P k d within = absurd (omega arith)

one_element : {X : Type 0} (P : X → Type 0) (x : X) (xs : List X) → P x → All P xs → All P (x ∷ xs)
one_element P x xs here rest zero d within = here
one_element P x xs here rest (suc k) d within = rest k d (omega arith)

-- what is first behind an element that isn't it is first with it
pub first_behind : {X : Type 0} (P : X → Type 0) (x : X) (xs : List X) (y : X) → (P x → ⊥) → IsFirst P xs y → IsFirst P (x ∷ xs) y
first_behind P x xs y never first = record {
  front = x ∷ first.front;
  rest = first.rest;
  parts = ap (λ (zs : List _). x ∷ zs) first.parts;
  here = first.here;
  before = one_element (λ z. ¬ P z) x first.front never first.before;
}

pub first_here : {X : Type 0} (P : X → Type 0) (x : X) (xs : List X) → P x → IsFirst P (x ∷ xs) x
first_here P x xs here = record { front = []; rest = xs; parts = refl; here = here; before = no_element (λ z. ¬ P z) }

abbrev IsRepeated : List (List ℕ) × List ℕ → Type 0
IsRepeated p = Contains p.0 p.1

-- names of which none is the first to stand among those before it
pub apart_behind : (earlier names : List (List ℕ)) → ((p : List (List ℕ) × List ℕ) → ¬ IsFirst IsRepeated (with_earlier earlier names) p)
    → AreApart names × ((x : List ℕ) → Has names x → Has earlier x → ⊥)
apart_behind earlier [] never = (tt, λ x has also. has)
apart_behind earlier (name ∷ rest) never =
    let fresh : Has earlier name → ⊥ = λ has. never (earlier, name) (first_here IsRepeated (earlier, name) (with_earlier (earlier ++ (name ∷ [])) rest) (has_contains earlier name has)) in
    let fresh_too : IsRepeated (earlier, name) → ⊥ = λ c. fresh (contains_has earlier name c.0 c.1 c.2) in
    let next = apart_behind (earlier ++ (name ∷ [])) rest (λ p first. never p (first_behind IsRepeated (earlier, name) (with_earlier (earlier ++ (name ∷ [])) rest) p fresh_too first)) in (
      ((λ has. next.1 name has (has_back earlier (name ∷ []) name (inl refl))), next.0),
      λ x has also. ⊎_elim (λ is. fresh (subst (λ (n : List ℕ). Has earlier n) (sym is) also)) (λ later. next.1 x later (has_front earlier (name ∷ []) x also)) has,
    )
