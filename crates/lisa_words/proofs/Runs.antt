-- The longest front that passes a test.
use Rattle.std.proofs.Common.{◌≡◌, ℕ, zero, suc, ◌+◌, ◌<◌, ◌≤◌, Bool, true, false, cond, List, [], ◌∷◌, ◌++◌, length, take, drop, get_or, refl, sym, ap, subst, ◌∙◌, arith, one-add}
use Rattle.std.proofs.lemmas.Bool.{and_parts, and_from}
use Rattle.std.proofs.lemmas.List.{take_all, take-append-drop, length-drop}
use Rattle.std.specs.List.{list_all, prefix_len}
use Rattle.lisa_words.specs.Bytes.{front_is}

pub same_head : {A : Type 0} (x y : A) (xs ys : List A) → ◌≡◌ {A = List A} (x ∷ xs) (y ∷ ys) → x ≡ y
same_head x y xs ys e = cc

pub same_tail : {A : Type 0} (x y : A) (xs ys : List A) → ◌≡◌ {A = List A} (x ∷ xs) (y ∷ ys) → xs ≡ ys
same_tail x y xs ys e = cc

pub taken_pass : (p : ℕ → Bool) (xs : List ℕ) → list_all p (take (prefix_len p xs) xs) ≡ true
taken_pass p [] = refl
taken_pass p (x ∷ xs) = go (p x) refl (taken_pass p xs)
  where
    go : (b : Bool) → p x ≡ b → list_all p (take (prefix_len p xs) xs) ≡ true → list_all p (take (cond b (1 + prefix_len p xs) 0) (x ∷ xs)) ≡ true
    go true e rest = rw one-add (and_from _ _ e rest)
    go false e rest = refl

pub run_ends : (p : ℕ → Bool) (xs : List ℕ) → front_is p (drop (prefix_len p xs) xs) ≡ false
run_ends p [] = refl
run_ends p (x ∷ xs) = go (p x) refl (run_ends p xs)
  where
    go : (b : Bool) → p x ≡ b → front_is p (drop (prefix_len p xs) xs) ≡ false → front_is p (drop (cond b (1 + prefix_len p xs) 0) (x ∷ xs)) ≡ false
    go true e rest = rw one-add rest
    go false e rest = e

-- a front that passes is no longer
pub run_longest : (p : ℕ → Bool) (xs more after : List ℕ) → xs ≡ more ++ after → list_all p more ≡ true → length more ≤ prefix_len p xs
run_longest p xs [] after e all = omega arith
run_longest p [] (m ∷ more) after e all = absurd cc
run_longest p (x ∷ xs) (m ∷ more) after e all =
    let parts = and_parts (p m) (list_all p more) all in
    let here : p x ≡ true = ap p (same_head x m xs (more ++ after) e) ∙ parts.0 in
    let less = run_longest p xs more after (same_tail x m xs (more ++ after) e) parts.1 in
    rw here (omega arith)

-- a front that passes, and what doesn't behind it, is the run
pub run_is : (p : ℕ → Bool) (front rest : List ℕ) → list_all p front ≡ true → front_is p rest ≡ false → prefix_len p (front ++ rest) ≡ length front
run_is p [] [] all ends = refl
run_is p [] (x ∷ rest) all ends = rw ends refl
run_is p (x ∷ front) rest all ends =
    let parts = and_parts (p x) (list_all p front) all in
    rw (parts.0, run_is p front rest parts.1 ends, one-add) refl

pub run_some : (p : ℕ → Bool) (xs : List ℕ) → 0 < length xs → p (get_or xs 0 0) ≡ true → 0 < prefix_len p xs
run_some p [] lt e = absurd (omega arith)
run_some p (x ∷ xs) lt e = rw e (omega arith)

-- a run from the front, with its first item written out
pub run_from : (p : ℕ → Bool) (b : ℕ) (bs : List ℕ) → p b ≡ true → prefix_len p (b ∷ bs) ≡ suc (prefix_len p bs)
run_from p b bs h = rw (h, one-add) refl

-- a list that passes is one run
pub run_all : (p : ℕ → Bool) (xs : List ℕ) → list_all p xs ≡ true → prefix_len p xs ≡ length xs
run_all p [] all = refl
run_all p (x ∷ xs) all = let parts = and_parts (p x) (list_all p xs) all in rw (parts.0, run_all p xs parts.1, one-add) refl

-- a list that is one run passes
pub all_run : (p : ℕ → Bool) (xs : List ℕ) → prefix_len p xs ≡ length xs → list_all p xs ≡ true
all_run p xs e = subst (λ (l : List ℕ). list_all p l ≡ true) (ap (λ (n : ℕ). take n xs) e ∙ take_all (length xs) xs (omega arith)) (taken_pass p xs)

-- the run in a front that is cut behind the item that ends it
pub run_cut : (p : ℕ → Bool) (xs rest : List ℕ) (b n : ℕ) → list_all p xs ≡ true → p b ≡ false → length xs < n → prefix_len p (take n (xs ++ b ∷ rest)) ≡ length xs
run_cut p xs rest b zero all e lt = absurd (omega arith)
run_cut p [] rest b (suc n) all e lt = rw e refl
run_cut p (x ∷ xs) rest b (suc n) all e lt =
    let parts = and_parts (p x) (list_all p xs) all in
    rw (parts.0, run_cut p xs rest b n parts.1 e (omega arith), one-add) refl

-- the item that ends a run
pub run_stop : (p : ℕ → Bool) (xs : List ℕ) → prefix_len p xs < length xs → (b : ℕ) × (rest : List ℕ) × (xs ≡ take (prefix_len p xs) xs ++ (b ∷ rest)) × (p b ≡ false)
run_stop p xs lt = go (drop (prefix_len p xs) xs) refl (run_ends p xs)
  where
    go : (l : List ℕ) → drop (prefix_len p xs) xs ≡ l → front_is p (drop (prefix_len p xs) xs) ≡ false → (b : ℕ) × (rest : List ℕ) × (xs ≡ take (prefix_len p xs) xs ++ (b ∷ rest)) × (p b ≡ false)
    go [] e f = absurd (omega (arith, length-drop (prefix_len p xs) xs, ap length e))
    go (b ∷ rest) e f = (b, rest, sym (take-append-drop (prefix_len p xs) xs) ∙ ap (λ (l : List ℕ). take (prefix_len p xs) xs ++ l) e, sym (ap (front_is p) e) ∙ f)
