-- Rows of values that are written place by place.
use Rattle.std.proofs.Common.{◌≡◌, ℕ, zero, suc, ◌+◌, ◌<◌, ◌≤◌, List, [], ◌∷◌, ◌++◌, length, take, drop, get_or, set, sym, ap, ◌∙◌, arith, ⊎_elim}
use Rattle.std.specs.Prelude.{◌==◌, All}
use Rattle.std.proofs.Math.ListN.{drop_of_length-le}
use Rattle.std.proofs.lemmas.Bool.{cases_Bool, eqb-true}
use Rattle.std.proofs.lemmas.Grind.{fold-append}
use Rattle.std.proofs.lemmas.List.{append-nil, take_all, take-append-le}
use Rattle.std.proofs.lemmas.List.Elements.{All-push}
use Rattle.lisa_debug.specs.Kept.{put_change, restored, with_change}
use Rattle.lisa_debug.specs.declared.journal.Change.{Change}

-- one more value of the row in place of the other's
pub seam : (i : ℕ) (row xs : List ℕ) (v : ℕ) → i < length xs → length row ≡ length xs → v ≡ get_or row i 0 → set (take i row ++ drop i xs) i v ≡ take (i + 1) row ++ drop (i + 1) xs
seam i [] [] v within same is = absurd (omega arith)
seam i [] (x ∷ xs) v within same is = absurd (omega arith)
seam i (r ∷ row) [] v within same is = absurd (omega arith)
seam zero (r ∷ row) (x ∷ xs) v within same is = ap (λ w. w ∷ xs) is
seam (suc i) (r ∷ row) (x ∷ xs) v within same is = let e : suc i + 1 ≡ suc (i + 1) = omega arith in rw e (ap (λ t. r ∷ t) (seam i row xs v (omega arith) (omega arith) is))

seam_same : (i : ℕ) (row xs : List ℕ) → i < length xs → length row ≡ length xs → get_or xs i 0 ≡ get_or row i 0 → take i row ++ drop i xs ≡ take (i + 1) row ++ drop (i + 1) xs
seam_same i [] [] within same is = absurd (omega arith)
seam_same i [] (x ∷ xs) within same is = absurd (omega arith)
seam_same i (r ∷ row) [] within same is = absurd (omega arith)
seam_same zero (r ∷ row) (x ∷ xs) within same is = ap (λ w. w ∷ xs) is
seam_same (suc i) (r ∷ row) (x ∷ xs) within same is = let e : suc i + 1 ≡ suc (i + 1) = omega arith in rw e (ap (λ t. r ∷ t) (seam_same i row xs (omega arith) (omega arith) is))

pub all_written : (i : ℕ) (row xs : List ℕ) → length row ≤ i → length xs ≤ i → take i row ++ drop i xs ≡ row
all_written i row xs a b = ap (λ t. take i row ++ t) (drop_of_length-le xs b) ∙ append-nil (take i row) ∙ take_all i row a

-- what is kept of the items up to a place puts their values back
pub restored_more : (i : ℕ) (row xs : List ℕ) (changes : List Change) (before now : ℕ) → i < length xs → length row ≡ length xs → now ≡ get_or xs i 0 → before ≡ get_or row i 0
    → restored changes xs ≡ take i row ++ drop i xs → restored (with_change changes i before now) xs ≡ take (i + 1) row ++ drop (i + 1) xs
restored_more i row xs changes before now within same is_now is_before so_far = ⊎_elim
    (λ t. rw t (so_far ∙ seam_same i row xs within same (sym is_now ∙ eqb-true now before t ∙ is_before)))
    (λ f. rw f (fold-append put_change xs changes (record { item = i; before = before } ∷ []) ∙ ap (λ values. set values i before) so_far ∙ seam i row xs before within same is_before))
    (cases_Bool (now == before))

pub placed_more : (n i : ℕ) (changes : List Change) (before now : ℕ) → i < n → All (λ change. change.item < n) changes → All (λ change. change.item < n) (with_change changes i before now)
placed_more n i changes before now within all = ⊎_elim
    (λ t. rw t all)
    (λ f. rw f (All-push (λ change. change.item < n) changes (record { item = i; before = before }) all within))
    (cases_Bool (now == before))

-- what stands in a room whose values were all written
pub kept_items : (n : ℕ) (new old : List ℕ) → length new ≡ n → take n (new ++ drop (length new) old) ≡ new
kept_items n new old long = take-append-le n new (drop (length new) old) (omega arith) ∙ take_all n new (omega arith)
