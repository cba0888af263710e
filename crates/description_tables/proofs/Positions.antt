-- The first place of a list at which a test passes.
use Rattle.std.proofs.Common.{◌≡◌, ◌<◌, ◌≤◌, ◌+◌, ℕ, zero, suc, List, [], ◌∷◌, ◌++◌, Option, None, Some, Bool, true, false, cond, not, nat_lt, nat_eq, length, get_or, take, map, refl, ap, sym, ◌∙◌, arith}
use Rattle.std.specs.Prelude.{position, option_map}
use Rattle.std.specs.List.{position_or_len}
use Rattle.std.proofs.Math.Dec.{leb-suc-suc}
use Rattle.std.specs.Option.{option_or}
use Rattle.std.proofs.lemmas.Bool.Decides.{nat_tests}
use Rattle.std.proofs.lemmas.List.Folds.{position_or_len_push}
use Rattle.std.proofs.lemmas.List.{take_all, length-map}
use Rattle.std.proofs.lemmas.Grind.{take_at_read}

within : (b : Bool) (k n : ℕ) → k ≤ n → cond (not b) (1 + k) 0 ≤ suc n
within true k n h = omega arith
within false k n h = omega arith

at_most : {X : Type 0} (p : X → Bool) (xs : List X) → position_or_len p xs ≤ length xs
at_most p [] = omega arith
at_most p (x ∷ xs) = within (p x) (position_or_len p xs) (length xs) (at_most p xs)

told : (k n : ℕ) (b : Bool) → k ≤ n
    → ◌≡◌ {A = Option ℕ} (cond (nat_lt (cond (nat_eq k n) (n + cond b 0 1) k) (n + 1)) (Some (cond (nat_eq k n) (n + cond b 0 1) k)) None) (option_or (cond (nat_lt k n) (Some k) None) (cond b (Some n) None))
told k n true le = grind (arith, nat_tests)
told k n false le = grind (arith, nat_tests)

length_push : {X : Type 0} (xs : List X) (x : X) → length (xs ++ x ∷ []) ≡ length xs + 1
length_push [] x = refl
length_push (y ∷ xs) x = let e = length_push xs x in omega (arith, e)

pub position_push : {X : Type 0} (p : X → Bool) (xs : List X) (x : X) → position p (xs ++ x ∷ []) ≡ option_or (position p xs) (cond (p x) (Some (length xs)) None)
position_push p xs x =
    ap (λ (n : ℕ). cond (nat_lt (position_or_len p (xs ++ x ∷ [])) n) (Some (position_or_len p (xs ++ x ∷ []))) None) (length_push xs x)
    ∙ ap (λ (k : ℕ). cond (nat_lt k (length xs + 1)) (Some k) None) (position_or_len_push p xs x)
    ∙ told (position_or_len p xs) (length xs) (p x) (at_most p xs)

pub length_take : {X : Type 0} (xs : List X) (i : ℕ) → i < length xs → length (take i xs) ≡ i
length_take [] i h = absurd (omega arith)
length_take (x ∷ xs) zero h = refl
length_take (x ∷ xs) (suc i) h = ap suc (length_take xs i (omega arith))

-- one more item, noted if its test passes
pub next_place : {X : Type 0} (p : X → Bool) (xs : List X) (i : ℕ) (x : X) (old new : Option ℕ) → i < length xs → x ≡ get_or xs i x
    → old ≡ position p (take i xs) → new ≡ option_or old (cond (p x) (Some i) None) → new ≡ position p (take (i + 1) xs)
next_place {X = X} p xs i x old new h is was now =
    now ∙ ap (λ (o : Option ℕ). option_or o (cond (p x) (Some i) None)) was
    ∙ ap (λ (k : ℕ). option_or (position p (take i xs)) (cond (p x) (Some k) None)) (sym (length_take xs i h))
    ∙ sym (position_push p (take i xs) x)
    ∙ ap (λ (y : X). position p (take i xs ++ y ∷ [])) is
    ∙ ap (position p) (sym ((take_at_read xs i x h).1))

pub all_places : {X : Type 0} (p : X → Bool) (xs : List X) (i : ℕ) (found : Option ℕ) → length xs ≤ i → found ≡ position p (take i xs) → found ≡ position p xs
all_places p xs i found h is = is ∙ ap (position p) (take_all i xs h)

at_map : {X Y : Type 0} (f : X → Y) (p : Y → Bool) (xs : List X) → position_or_len p (map f xs) ≡ position_or_len (λ x. p (f x)) xs
at_map f p [] = refl
at_map f p (x ∷ xs) = ap (λ (k : ℕ). cond (not (p (f x))) (1 + k) 0) (at_map f p xs)

pub position-map : {X Y : Type 0} (f : X → Y) (p : Y → Bool) (xs : List X) → position (λ x. p (f x)) xs ≡ position p (map f xs)
position-map f p xs =
    sym (ap (λ (k : ℕ). cond (nat_lt k (length (map f xs))) (Some k) None) (at_map f p xs)
    ∙ ap (λ (n : ℕ). cond (nat_lt (position_or_len (λ x. p (f x)) xs) n) (Some (position_or_len (λ x. p (f x)) xs)) None) (length-map xs f))

below : (k n i : ℕ) → ◌≡◌ {A = Option ℕ} (cond (nat_lt k n) (Some k) None) (Some i) → i < n
below k n i e = grind (arith, nat_tests)

pub position_below : {X : Type 0} (p : X → Bool) (xs : List X) (i : ℕ) → position p xs ≡ Some i → i < length xs
position_below p xs i e = below (position_or_len p xs) (length xs) i e

mapped : (b : Bool) (k : ℕ) → cond b (Some (suc k)) None ≡ option_map suc (cond b (Some k) None)
mapped true k = refl
mapped false k = refl

told_cons : (b : Bool) (k n : ℕ) → ◌≡◌ {A = Option ℕ} (cond (nat_lt (cond (not b) (1 + k) 0) (suc n)) (Some (cond (not b) (1 + k) 0)) None) (cond b (Some 0) (option_map suc (cond (nat_lt k n) (Some k) None)))
told_cons true k n = grind (arith, nat_tests)
told_cons false k n =
    let one : 1 + k ≡ suc k = omega arith in
    ap (λ (j : ℕ). cond (nat_lt j (suc n)) (Some j) None) one
    ∙ ap (λ (b : Bool). cond b (Some (suc k)) None) (leb-suc-suc (suc k) n)
    ∙ mapped (nat_lt k n) k

pub position-cons : {X : Type 0} (p : X → Bool) (x : X) (xs : List X) → position p (x ∷ xs) ≡ cond (p x) (Some 0) (option_map suc (position p xs))
position-cons p x xs = told_cons (p x) (position_or_len p xs) (length xs)
