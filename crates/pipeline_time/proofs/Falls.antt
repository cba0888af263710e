-- Numbers that fall, from the newest to the oldest.
use Rattle.std.proofs.Common.{◌≡◌, ℕ, suc, ◌+◌, ◌<◌, ◌≤◌, Bool, true, false, cond, List, [], ◌∷◌, ◌++◌, length, Option, None, Some, refl, ap, ◌∙◌, subst, arith, nat_eq}
use Rattle.std.specs.List.{AllByRecursion, IsDistinct, filter, find, Contains}
use Rattle.std.proofs.lemmas.Bool.{ne_eqb, both_ways}
use Rattle.std.proofs.lemmas.List.Elements.{All-from_recursion}
use Rattle.pipeline_time.proofs.Lists.{each_append, each_so}

-- from one number up to another, each before lower ones
abbrev pub IsFalling : ℕ → ℕ → List ℕ → Type 0
IsFalling from to [] = Unit {0}
IsFalling from to (n ∷ ns) = (from ≤ n) × (n < to) × IsFalling from n ns

pub falls_wider : (from to from' to' : ℕ) (ns : List ℕ) → from' ≤ from → to ≤ to' → IsFalling from to ns → IsFalling from' to' ns
falls_wider from to from' to' [] low high falls = tt
falls_wider from to from' to' (n ∷ ns) low high falls = (omega (arith, falls.0), omega (arith, falls.1), falls_wider from n from' n ns low (omega arith) falls.2)

pub falls_append : (from middle to : ℕ) (ms ns : List ℕ) → from ≤ middle → middle ≤ to → IsFalling middle to ms → IsFalling from middle ns → IsFalling from to (ms ++ ns)
falls_append from middle to [] ns low high ms_fall ns_fall = falls_wider from middle from to ns (omega arith) high ns_fall
falls_append from middle to (m ∷ ms) ns low high ms_fall ns_fall =
    (omega (arith, ms_fall.0), ms_fall.1, falls_append from middle m ms ns low ms_fall.0 ms_fall.2 ns_fall)

pub falls_within : (from to : ℕ) (ns : List ℕ) → IsFalling from to ns → AllByRecursion (λ n. n < to) ns
falls_within from to [] falls = tt
falls_within from to (n ∷ ns) falls = (falls.1, each_so (λ m. m < n) (λ m. m < to) ns (λ m l. omega (arith, falls.1)) (falls_within from n ns falls.2))

pub falls_distinct : (from to : ℕ) (ns : List ℕ) → IsFalling from to ns → IsDistinct nat_eq ns
unfolding IsDistinct
falls_distinct from to [] falls = tt
falls_distinct from to (n ∷ ns) falls =
    (each_so (λ m. m < n) (λ m. nat_eq n m ≡ false) ns (λ m l. ne_eqb n m (λ e. omega arith)) (falls_within from n ns falls.2), falls_distinct from n ns falls.2)

pub distinct_append : (ms ns : List ℕ) → IsDistinct nat_eq ms → IsDistinct nat_eq ns → AllByRecursion (λ m. AllByRecursion (λ n. nat_eq m n ≡ false) ns) ms → IsDistinct nat_eq (ms ++ ns)
unfolding IsDistinct
distinct_append [] ns first second apart = second
distinct_append (m ∷ ms) ns first second apart =
    (each_append (λ n. nat_eq m n ≡ false) ms ns first.0 apart.0, distinct_append ms ns first.1 second apart.1)

-- ---- how many

abbrev pub how_many : {X : Type 0} → (X → Bool) → List X → ℕ
how_many test [] = 0
how_many test (x ∷ xs) = cond (test x) (suc (how_many test xs)) (how_many test xs)

pub many_filtered : {X : Type 0} (test : X → Bool) (xs : List X) → length (filter test xs) ≡ how_many test xs
many_filtered test [] = refl
many_filtered {X = X} test (x ∷ xs) = of (test x) (filter test xs) (how_many test xs) (many_filtered test xs)
  where
    of : (b : Bool) (ys : List X) (n : ℕ) → length ys ≡ n → length (cond b (x ∷ ys) ys) ≡ cond b (suc n) n
    of true ys n e = ap suc e
    of false ys n e = e

pub many_append : {X : Type 0} (test : X → Bool) (xs ys : List X) → how_many test (xs ++ ys) ≡ how_many test xs + how_many test ys
many_append test [] ys = omega arith
many_append test (x ∷ xs) ys = of (test x) _ _ (how_many test ys) (many_append test xs ys)
  where
    of : (b : Bool) (m n k : ℕ) → m ≡ n + k → cond b (suc m) m ≡ cond b (suc n) n + k
    of true m n k e = omega arith
    of false m n k e = e

pub many_same : {X : Type 0} (p q : X → Bool) (xs : List X) → AllByRecursion (λ x. p x ≡ q x) xs → how_many p xs ≡ how_many q xs
many_same p q [] each = refl
many_same p q (x ∷ xs) each = ap (λ b. cond b (suc (how_many p xs)) (how_many p xs)) each.0 ∙ ap (λ n. cond (q x) (suc n) n) (many_same p q xs each.1)

pub many_none : {X : Type 0} (p : X → Bool) (xs : List X) → AllByRecursion (λ x. p x ≡ false) xs → how_many p xs ≡ 0
many_none p [] each = refl
many_none p (x ∷ xs) each = ap (λ b. cond b (suc (how_many p xs)) (how_many p xs)) each.0 ∙ many_none p xs each.1

none_many_here : {X : Type 0} (p : X → Bool) (x : X) (xs : List X) (b : Bool) → p x ≡ b → (how_many p xs ≡ 0 → AllByRecursion (λ x. p x ≡ false) xs) → cond b (suc (how_many p xs)) (how_many p xs) ≡ 0 → AllByRecursion (λ x. p x ≡ false) (x ∷ xs)
none_many_here p x xs true is more e = absurd (omega (arith, e))
none_many_here p x xs false is more e = (is, more e)

pub none_many : {X : Type 0} (p : X → Bool) (xs : List X) → how_many p xs ≡ 0 → AllByRecursion (λ x. p x ≡ false) xs
none_many p [] e = tt
none_many p (x ∷ xs) e = none_many_here p x xs (p x) refl (none_many p xs) e

-- where none is found there is none
some_none : {X : Type 0} (x : X) → Some x ≡ None → ⊥
some_none x e = cc

none_found_here : {X : Type 0} (x : X) (o : Option X) (b : Bool) (n : ℕ) → (o ≡ None → n ≡ 0) → cond b (Some x) o ≡ None → cond b (suc n) n ≡ 0
none_found_here x o true n so e = absurd (some_none x e)
none_found_here x o false n so e = so e

pub none_found : {X : Type 0} (p : X → Bool) (xs : List X) → find p xs ≡ None → how_many p xs ≡ 0
none_found p [] e = refl
none_found p (x ∷ xs) e = none_found_here x (find p xs) (p x) (how_many p xs) (none_found p xs) e

-- where there is one at most each is the one that is found
pub only_found : {X : Type 0} (p : X → Bool) (xs : List X) → how_many p xs ≤ 1 → AllByRecursion (λ x. p x ≡ true → find p xs ≡ Some x) xs
only_found p [] few = tt
only_found p (x ∷ xs) few = of (p x) refl few (only_found p xs)
  where
    of : (b : Bool) → p x ≡ b → cond b (suc (how_many p xs)) (how_many p xs) ≤ 1 → (how_many p xs ≤ 1 → AllByRecursion (λ y. p y ≡ true → find p xs ≡ Some y) xs) → AllByRecursion (λ y. p y ≡ true → cond (p x) (Some x) (find p xs) ≡ Some y) (x ∷ xs)
    of true is few more = (
      λ e. ap (λ b. cond b (Some x) (find p xs)) is,
      each_so (λ y. p y ≡ false) (λ y. p y ≡ true → cond (p x) (Some x) (find p xs) ≡ Some y) xs (λ y not' yes'. absurd (both_ways (p y) not' yes')) (none_many p xs (omega arith)),
    )
    of false is few more = (
      λ e. absurd (both_ways (p x) is e),
      each_so (λ y. p y ≡ true → find p xs ≡ Some y) (λ y. p y ≡ true → cond (p x) (Some x) (find p xs) ≡ Some y) xs (λ y so e. ap (λ b. cond b (Some x) (find p xs)) is ∙ so e) (more few),
    )

pub of_contained : {X : Type 0} (P : X → Type 0) (xs : List X) (x : X) → AllByRecursion P xs → Contains xs x → P x
of_contained P xs x each (k, within, is) = subst P is (All-from_recursion P xs each k x within)
