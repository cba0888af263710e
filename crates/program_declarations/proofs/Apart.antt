-- Lists in which nothing stands twice, and that have nothing in common.
use Rattle.std.proofs.Common.{◌≢◌, ℕ, zero, suc, List, [], ◌∷◌, ◌++◌, map, drop, sym, arith}
use Rattle.std.specs.Prelude.{AllPairs}
use Rattle.std.specs.List.{AllByRecursion}
use Rattle.std.proofs.lemmas.List.Elements.{All-from_recursion, recursion_from_All}
use Rattle.std.proofs.lemmas.List.Kept.{AllPairs-cons}

abbrev pub IsAbsent : {X : Type 0} → X → List X → Type 0
IsAbsent x ys = AllByRecursion (λ y. x ≢ y) ys

abbrev pub Apart : {X : Type 0} → List X → Type 0
Apart [] = Unit {0}
Apart (x ∷ xs) = IsAbsent x xs × Apart xs

-- ---- each of a list

pub each_append : {X : Type 0} (P : X → Type 0) (xs ys : List X) → AllByRecursion P xs → AllByRecursion P ys → AllByRecursion P (xs ++ ys)
each_append P [] ys h k = k
each_append P (x ∷ xs) ys h k = (h.0, each_append P xs ys h.1 k)

pub each_weaker : {X : Type 0} (P Q : X → Type 0) → ((x : X) → P x → Q x) → (xs : List X) → AllByRecursion P xs → AllByRecursion Q xs
each_weaker P Q f [] h = tt
each_weaker P Q f (x ∷ xs) h = (f x h.0, each_weaker P Q f xs h.1)

pub each_map_of : {X Y : Type 0} (P : X → Type 0) (Q : Y → Type 0) (f : X → Y) → ((x : X) → P x → Q (f x)) → (xs : List X) → AllByRecursion P xs → AllByRecursion Q (map f xs)
each_map_of P Q f h [] k = tt
each_map_of P Q f h (x ∷ xs) k = (h x k.0, each_map_of P Q f h xs k.1)

pub each_drop : {X : Type 0} (P : X → Type 0) (n : ℕ) (xs : List X) → AllByRecursion P xs → AllByRecursion P (drop n xs)
each_drop P zero xs h = h
each_drop P (suc n) [] h = tt
each_drop P (suc n) (x ∷ xs) h = each_drop P n xs h.1

-- ---- lists that have nothing in common

-- none of the first is in the second
abbrev pub HaveNone : {X : Type 0} → (xs ys : List X) → Type 0
HaveNone xs ys = AllByRecursion (λ x. IsAbsent x ys) xs

absent_left : {X : Type 0} (x : X) (ys zs : List X) → IsAbsent x (ys ++ zs) → IsAbsent x ys
absent_left x [] zs h = tt
absent_left x (y ∷ ys) zs h = (h.0, absent_left x ys zs h.1)

absent_right : {X : Type 0} (x : X) (ys zs : List X) → IsAbsent x (ys ++ zs) → IsAbsent x zs
absent_right x [] zs h = h
absent_right x (y ∷ ys) zs h = absent_right x ys zs h.1

pub none_left : {X : Type 0} (xs ys zs : List X) → HaveNone xs (ys ++ zs) → HaveNone xs ys
none_left [] ys zs h = tt
none_left (x ∷ xs) ys zs h = (absent_left x ys zs h.0, none_left xs ys zs h.1)

pub none_right : {X : Type 0} (xs ys zs : List X) → HaveNone xs (ys ++ zs) → HaveNone xs zs
none_right [] ys zs h = tt
none_right (x ∷ xs) ys zs h = (absent_right x ys zs h.0, none_right xs ys zs h.1)

pub none_both : {X : Type 0} (xs ys zs : List X) → HaveNone xs ys → HaveNone xs zs → HaveNone xs (ys ++ zs)
none_both [] ys zs h k = tt
none_both (x ∷ xs) ys zs h k = (each_append (λ y. x ≢ y) ys zs h.0 k.0, none_both xs ys zs h.1 k.1)

none_in_none : {X : Type 0} (ys : List X) → HaveNone ys []
none_in_none [] = tt
none_in_none (y ∷ ys) = (tt, none_in_none ys)

one_more : {X : Type 0} (x : X) (xs ys : List X) → IsAbsent x ys → HaveNone ys xs → HaveNone ys (x ∷ xs)
one_more x xs [] h k = tt
one_more x xs (y ∷ ys) h k = (((λ e. h.0 (sym e)), k.0), one_more x xs ys h.1 k.1)

-- nor the other way about
pub none_back : {X : Type 0} (xs ys : List X) → HaveNone xs ys → HaveNone ys xs
none_back [] ys h = none_in_none ys
none_back (x ∷ xs) ys h = one_more x xs ys h.0 (none_back xs ys h.1)

pub unlike : {X : Type 0} (P Q : X → Type 0) → ((x y : X) → P x → Q y → x ≢ y) → (xs ys : List X) → AllByRecursion P xs → AllByRecursion Q ys → HaveNone xs ys
unlike P Q differ [] ys p q = tt
unlike {X = X} P Q differ (x ∷ xs) ys p q = (absent ys q, unlike P Q differ xs ys p.1 q)
  where
    absent : (ys : List X) → AllByRecursion Q ys → IsAbsent x ys
    absent [] q = tt
    absent (y ∷ ys) q = (differ x y p.0 q.0, absent ys q.1)

-- ---- lists in which nothing stands twice

pub apart_left : {X : Type 0} (xs ys : List X) → Apart (xs ++ ys) → Apart xs
apart_left [] ys h = tt
apart_left (x ∷ xs) ys h = (absent_left x xs ys h.0, apart_left xs ys h.1)

pub apart_right : {X : Type 0} (xs ys : List X) → Apart (xs ++ ys) → Apart ys
apart_right [] ys h = h
apart_right (x ∷ xs) ys h = apart_right xs ys h.1

pub apart_none : {X : Type 0} (xs ys : List X) → Apart (xs ++ ys) → HaveNone xs ys
apart_none [] ys h = tt
apart_none (x ∷ xs) ys h = (absent_right x xs ys h.0, apart_none xs ys h.1)

pub apart_both : {X : Type 0} (xs ys : List X) → Apart xs → Apart ys → HaveNone xs ys → Apart (xs ++ ys)
apart_both [] ys h k none = k
apart_both (x ∷ xs) ys h k none = (each_append (λ y. x ≢ y) xs ys h.0 none.0, apart_both xs ys h.1 k none.1)

pub apart_from_pairs : {X : Type 0} (xs : List X) → AllPairs (λ x y. x ≢ y) xs → Apart xs
apart_from_pairs [] h = tt
apart_from_pairs {X = X} (x ∷ xs) h = (
  recursion_from_All (λ y. x ≢ y) xs (λ k d low. h zero (suc k) d (omega arith) (omega (arith, low))),
  apart_from_pairs xs (λ i j d less low. h (suc i) (suc j) d (omega (arith, less)) (omega (arith, low))),
)

pub pairs : {X : Type 0} (xs : List X) → Apart xs → AllPairs (λ x y. x ≢ y) xs
pairs [] h = λ i j d less low. absurd (omega (arith, low))
pairs (x ∷ xs) h = AllPairs-cons (λ x y. x ≢ y) x xs (All-from_recursion (λ y. x ≢ y) xs h.0) (pairs xs h.1)
