-- Lists in which nothing stands twice.
use Rattle.std.proofs.Common.{◌≡◌, ◌≢◌, ℕ, zero, suc, List, [], ◌∷◌, ◌++◌, map, drop, arith}
use Rattle.std.specs.Prelude.{AllPairs}
use Rattle.std.specs.List.{AllByRecursion}
use Rattle.std.proofs.lemmas.List.Elements.{All-from_recursion, recursion_from_All}
use Rattle.std.proofs.lemmas.List.Kept.{AllPairs-cons}

abbrev pub IsAbsent : {X : Type 0} → X → List X → Type 0
IsAbsent x ys = AllByRecursion (λ y. x ≢ y) ys

abbrev pub Apart : {X : Type 0} → List X → Type 0
Apart [] = Unit {0}
Apart (x ∷ xs) = IsAbsent x xs × Apart xs

-- ---- parts

pub each_append : {X : Type 0} (P : X → Type 0) (xs ys : List X) → AllByRecursion P xs → AllByRecursion P ys → AllByRecursion P (xs ++ ys)
each_append P [] ys h k = k
each_append P (x ∷ xs) ys h k = (h.0, each_append P xs ys h.1 k)

pub each_weaker : {X : Type 0} (P Q : X → Type 0) → ((x : X) → P x → Q x) → (xs : List X) → AllByRecursion P xs → AllByRecursion Q xs
each_weaker P Q f [] h = tt
each_weaker P Q f (x ∷ xs) h = (f x h.0, each_weaker P Q f xs h.1)

pub each_map : {X Y : Type 0} (P : Y → Type 0) (f : X → Y) → ((x : X) → P (f x)) → (xs : List X) → AllByRecursion P (map f xs)
each_map P f h [] = tt
each_map P f h (x ∷ xs) = (h x, each_map P f h xs)

pub each_map_of : {X Y : Type 0} (P : X → Type 0) (Q : Y → Type 0) (f : X → Y) → ((x : X) → P x → Q (f x)) → (xs : List X) → AllByRecursion P xs → AllByRecursion Q (map f xs)
each_map_of P Q f h [] k = tt
each_map_of P Q f h (x ∷ xs) k = (h x k.0, each_map_of P Q f h xs k.1)

pub each_drop : {X : Type 0} (P : X → Type 0) (n : ℕ) (xs : List X) → AllByRecursion P xs → AllByRecursion P (drop n xs)
each_drop P zero xs h = h
each_drop P (suc n) [] h = tt
each_drop P (suc n) (x ∷ xs) h = each_drop P n xs h.1

absent_append : {X : Type 0} (x : X) (xs ys : List X) → IsAbsent x xs → IsAbsent x ys → IsAbsent x (xs ++ ys)
absent_append x xs ys h k = each_append (λ y. x ≢ y) xs ys h k

-- each of one list is unlike each of the other
pub apart_append : {X : Type 0} (P Q : X → Type 0) → ((x y : X) → P x → Q y → x ≢ y) → (xs ys : List X) → AllByRecursion P xs → AllByRecursion Q ys → Apart xs → Apart ys → Apart (xs ++ ys)
apart_append P Q unlike [] ys p q h k = k
apart_append P Q unlike (x ∷ xs) ys p q h k = (
  absent_append x xs ys h.0 (each_weaker Q (λ y. x ≢ y) (λ y. unlike x y p.0) ys q),
  apart_append P Q unlike xs ys p.1 q h.1 k,
)

pub apart_drop : {X : Type 0} (n : ℕ) (xs : List X) → Apart xs → Apart (drop n xs)
apart_drop zero xs h = h
apart_drop (suc n) [] h = tt
apart_drop (suc n) (x ∷ xs) h = apart_drop n xs h.1

-- ---- maps

absent_map : {X Y : Type 0} (f : X → Y) (x : X) → ((y : X) → f x ≡ f y → x ≡ y) → (xs : List X) → IsAbsent x xs → IsAbsent (f x) (map f xs)
absent_map f x one [] h = tt
absent_map f x one (y ∷ xs) h = ((λ e. h.0 (one y e)), absent_map f x one xs h.1)

pub apart_map : {X Y : Type 0} (f : X → Y) → ((x y : X) → f x ≡ f y → x ≡ y) → (xs : List X) → Apart xs → Apart (map f xs)
apart_map f one [] h = tt
apart_map f one (x ∷ xs) h = (absent_map f x (one x) xs h.0, apart_map f one xs h.1)

absent_map_of : {X Y : Type 0} (P : X → Type 0) (f : X → Y) (x : X) → ((y : X) → P y → f x ≡ f y → x ≡ y) → (xs : List X) → AllByRecursion P xs → IsAbsent x xs → IsAbsent (f x) (map f xs)
absent_map_of P f x one [] p h = tt
absent_map_of P f x one (y ∷ xs) p h = ((λ e. h.0 (one y p.0 e)), absent_map_of P f x one xs p.1 h.1)

-- where each that has P is told by what f gives
pub apart_map_of : {X Y : Type 0} (P : X → Type 0) (f : X → Y) → ((x y : X) → P x → P y → f x ≡ f y → x ≡ y) → (xs : List X) → AllByRecursion P xs → Apart xs → Apart (map f xs)
apart_map_of P f one [] p h = tt
apart_map_of P f one (x ∷ xs) p h = (absent_map_of P f x (λ y. one x y p.0) xs p.1 h.0, apart_map_of P f one xs p.1 h.1)

-- ---- pairs

pub apart_from_pairs : {X : Type 0} (xs : List X) → AllPairs (λ x y. x ≢ y) xs → Apart xs
apart_from_pairs [] h = tt
apart_from_pairs {X = X} (x ∷ xs) h = (
  recursion_from_All (λ y. x ≢ y) xs (λ k d low. h zero (suc k) d (omega arith) (omega (arith, low))),
  apart_from_pairs xs (λ i j d less low. h (suc i) (suc j) d (omega (arith, less)) (omega (arith, low))),
)

unmap_absent : {X Y : Type 0} (f : X → Y) (x : X) (xs : List X) → IsAbsent (f x) (map f xs) → AllByRecursion (λ y. f x ≢ f y) xs
unmap_absent f x [] h = tt
unmap_absent f x (y ∷ xs) h = (h.0, unmap_absent f x xs h.1)

-- by what f gives of each
pub pairs_by : {X Y : Type 0} (f : X → Y) (xs : List X) → Apart (map f xs) → AllPairs (λ x y. f x ≢ f y) xs
pairs_by f [] h = λ i j d less low. absurd (omega (arith, low))
pairs_by f (x ∷ xs) h = AllPairs-cons (λ x y. f x ≢ f y) x xs (All-from_recursion (λ y. f x ≢ f y) xs (unmap_absent f x xs h.0)) (pairs_by f xs h.1)
