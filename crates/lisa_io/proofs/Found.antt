-- The first element that passes, after a write that a test can't tell from what was there.
use Rattle.std.proofs.Common.{◌≡◌, ℕ, zero, suc, ◌≤◌, Bool, true, false, cond, List, [], ◌∷◌, ◌<◌, length, get_or, set, refl, sym, ap, ◌∙◌, arith, Option, Some}
use Rattle.std.specs.Prelude.{find, unwrap_or}
use Rattle.std.specs.Option.{option_map}

push : {X Y : Type 0} (f : X → Y) (b : Bool) (x : X) (r : Option X) → option_map f (cond b (Some x) r) ≡ cond b (Some (f x)) (option_map f r)
push f b x r = elim b as (λ v. option_map f (cond v (Some x) r) ≡ cond v (Some (f x)) (option_map f r)) [ true ↦ refl | false ↦ refl ]

pub find_map_set : {X Y : Type 0} (q : X → Bool) (f : X → Y) (xs : List X) (i : ℕ) (y d : X)
    → q y ≡ q (get_or xs i d) → f y ≡ f (get_or xs i d) → option_map f (find q (set xs i y)) ≡ option_map f (find q xs)
find_map_set q f [] i y d same value = refl
find_map_set q f (x ∷ xs) zero y d same value =
    push f (q y) y (find q xs) ∙ (λ j. cond (same j) (Some (value j)) (option_map f (find q xs))) ∙ sym (push f (q x) x (find q xs))
find_map_set q f (x ∷ xs) (suc i) y d same value =
    push f (q x) x (find q (set xs i y)) ∙ ap (λ r. cond (q x) (Some (f x)) r) (find_map_set q f xs i y d same value) ∙ sym (push f (q x) x (find q xs))

at_test : {X : Type 0} (f : X → ℕ) (b : Bool) (x y : X) (r : Option X) (m : ℕ) → f x ≤ f y
    → unwrap_or (option_map f (cond b (Some x) r)) m ≤ unwrap_or (option_map f (cond b (Some y) r)) m
at_test f b x y r m le =
    elim b as (λ v. unwrap_or (option_map f (cond v (Some x) r)) m ≤ unwrap_or (option_map f (cond v (Some y) r)) m) [ true ↦ le | false ↦ omega arith ]

after_test : {X : Type 0} (f : X → ℕ) (b : Bool) (x : X) (r s : Option X) (m : ℕ) → unwrap_or (option_map f r) m ≤ unwrap_or (option_map f s) m
    → unwrap_or (option_map f (cond b (Some x) r)) m ≤ unwrap_or (option_map f (cond b (Some x) s)) m
after_test f b x r s m le =
    elim b as (λ v. unwrap_or (option_map f (cond v (Some x) r)) m ≤ unwrap_or (option_map f (cond v (Some x) s)) m) [ true ↦ omega arith | false ↦ le ]

pub find_rises : {X : Type 0} (q : X → Bool) (f : X → ℕ) (xs : List X) (i : ℕ) (y d : X) (m : ℕ)
    → q y ≡ q (get_or xs i d) → f (get_or xs i d) ≤ f y → unwrap_or (option_map f (find q xs)) m ≤ unwrap_or (option_map f (find q (set xs i y))) m
find_rises q f [] i y d m same value = omega arith
find_rises q f (x ∷ xs) zero y d m same value = rw same (at_test f (q x) x y (find q xs) m value)
find_rises q f (x ∷ xs) (suc i) y d m same value = after_test f (q x) x (find q xs) (find q (set xs i y)) m (find_rises q f xs i y d m same value)

-- a write at the first place that passes
pub set_first : {X : Type 0} (p : X → Bool) (xs : List X) (at : ℕ) (y d : X) → at < length xs
    → ((k : ℕ) → k < at → p (get_or xs k d) ≡ false) → p y ≡ true → find p (set xs at y) ≡ Some y
set_first p [] at y d within first passes = absurd (omega arith)
set_first p (x ∷ xs) zero y d within first passes = ap (λ b. cond b (Some y) (find p xs)) passes
set_first p (x ∷ xs) (suc at) y d within first passes =
    ap (λ b. cond b (Some x) (find p (set xs at y))) (first 0 (omega arith))
    ∙ set_first p xs at y d (omega arith) (λ k h. first (suc k) (omega arith)) passes

-- one more element that doesn't pass, or one that does
pub find_skip : {X : Type 0} (p : X → Bool) (x : X) (xs ys : List X) → ys ≡ x ∷ xs → p x ≡ false → find p ys ≡ find p xs
find_skip p x xs ys is fails = ap (find p) is ∙ ap (λ b. cond b (Some x) (find p xs)) fails

pub find_here : {X : Type 0} (p : X → Bool) (x : X) (xs ys : List X) → ys ≡ x ∷ xs → p x ≡ true → find p ys ≡ Some x
find_here p x xs ys is passes = ap (find p) is ∙ ap (λ b. cond b (Some x) (find p xs)) passes

-- a write to an element that doesn't pass, of one that doesn't either
pub find_map_other : {X Y : Type 0} (q : X → Bool) (f : X → Y) (xs : List X) (i : ℕ) (y d : X)
    → q y ≡ false → q (get_or xs i d) ≡ false → option_map f (find q (set xs i y)) ≡ option_map f (find q xs)
find_map_other q f [] i y d new old = refl
find_map_other q f (x ∷ xs) zero y d new old =
    ap (λ b. option_map f (cond b (Some y) (find q xs))) new ∙ sym (ap (λ b. option_map f (cond b (Some x) (find q xs))) old)
find_map_other q f (x ∷ xs) (suc i) y d new old =
    push f (q x) x (find q (set xs i y)) ∙ ap (λ r. cond (q x) (Some (f x)) r) (find_map_other q f xs i y d new old) ∙ sym (push f (q x) x (find q xs))
