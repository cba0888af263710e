-- Elements without a text, and the first element that passes a test.
use Rattle.std.proofs.Common.{◌≡◌, ℕ, zero, suc, ◌+◌, ◌<◌, ◌≤◌, Bool, true, false, List, [], ◌∷◌, ◌++◌, length, take, get_or, refl, sym, ap, ◌∙◌, subst, arith, ⊎_elim, Option, Some, None, add-one}
use Rattle.std.specs.Prelude.{find}
use Rattle.std.specs.List.{flat_map}
use Rattle.std.proofs.lemmas.Bool.{cases_Bool, cases_eq, true≢false}
use Rattle.std.proofs.lemmas.Grind.{flat_map-append}
use Rattle.std.proofs.lemmas.List.{take_more, append-nil, take_all}

-- one more element without a text
silent_one : {X : Type 0} (f : X → List ℕ) (xs : List X) (i : ℕ) (d : X) → i < length xs → f (get_or xs i d) ≡ [] → flat_map f (take i xs) ≡ flat_map f (take (i + 1) xs)
silent_one f xs i d within none =
    sym (ap (flat_map f) (take_more xs i d within) ∙ flat_map-append f (take i xs) (get_or xs i d ∷ [])
    ∙ ap (λ t. flat_map f (take i xs) ++ t) (append-nil (f (get_or xs i d)) ∙ none) ∙ append-nil (flat_map f (take i xs)))

-- elements in a row without a text
pub silent : {X : Type 0} (f : X → List ℕ) (xs : List X) (i j : ℕ) (d : X) → i ≤ j → j ≤ length xs → ((k : ℕ) → i ≤ k → k < j → f (get_or xs k d) ≡ [])
    → flat_map f (take i xs) ≡ flat_map f (take j xs)
silent f xs i zero d from to none = ap (λ k. flat_map f (take k xs)) {x = i} {y = zero} (omega arith)
silent f xs i (suc j) d from to none = ⊎_elim
    (λ e. ap (λ k. flat_map f (take k xs)) e)
    (λ ne. silent f xs i j d (omega arith) (omega arith) (λ k a b. none k a (omega arith)) ∙ silent_one f xs j d (omega arith) (none j (omega arith) (omega arith))
    ∙ ap (λ k. flat_map f (take k xs)) {x = j + 1} {y = suc j} (omega arith))
    (cases_eq i (suc j))

-- and up to the end
pub silent_rest : {X : Type 0} (f : X → List ℕ) (xs : List X) (i : ℕ) (d : X) → i ≤ length xs → ((k : ℕ) → i ≤ k → k < length xs → f (get_or xs k d) ≡ []) → flat_map f (take i xs) ≡ flat_map f xs
silent_rest f xs i d from none = silent f xs i (length xs) d from (omega arith) none ∙ ap (flat_map f) (take_all (length xs) xs (omega arith))

-- the first element that passes is found
pub found_first : {X : Type 0} (p : X → Bool) (xs : List X) (i : ℕ) (d : X) → i < length xs → p (get_or xs i d) ≡ true → ((k : ℕ) → k < i → p (get_or xs k d) ≡ false) → find p xs ≡ Some (get_or xs i d)
found_first p [] i d within here before = absurd (omega arith)
found_first p (x ∷ xs) zero d within here before = rw here refl
found_first p (x ∷ xs) (suc i) d within here before = rw (before 0 (omega arith)) (found_first p xs i d (omega arith) here (λ k h. before (suc k) (omega arith)))

-- where none passes nothing is found
pub found_none : {X : Type 0} (p : X → Bool) (xs : List X) (d : X) → ((k : ℕ) → k < length xs → p (get_or xs k d) ≡ false) → find p xs ≡ None
found_none p [] d none = refl
found_none p (x ∷ xs) d none = rw (none 0 (omega arith)) (found_none p xs d (λ k h. none (suc k) (omega arith)))

-- two lists with the same texts at the same places
pub same_texts : {X Y : Type 0} (f : X → List ℕ) (g : Y → List ℕ) (xs : List X) (ys : List Y) (d : X) (e : Y) → length xs ≡ length ys
    → ((k : ℕ) → k < length xs → f (get_or xs k d) ≡ g (get_or ys k e)) → flat_map f xs ≡ flat_map g ys
same_texts f g [] [] d e long same = refl
same_texts f g [] (y ∷ ys) d e long same = absurd (omega arith)
same_texts f g (x ∷ xs) [] d e long same = absurd (omega arith)
same_texts f g (x ∷ xs) (y ∷ ys) d e long same = λ i. same 0 (omega arith) i ++ same_texts f g xs ys d e (omega arith) (λ k h. same (suc k) (omega arith)) i
