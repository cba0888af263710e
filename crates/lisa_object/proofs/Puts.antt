-- Pieces put one behind the other.
use Rattle.std.proofs.Common.{◌≡◌, ℕ, List, [], ◌∷◌, ◌++◌, refl, sym, ap, ◌∙◌, append_assoc}
use Rattle.std.specs.Prelude.{codes}
use Rattle.lisa_object.specs.Texts.{line_of}

regrouped : (a n w d c : List ℕ) → ((((((((a ++ codes "memory ") ++ n) ++ codes " ") ++ w) ++ codes " ") ++ d) ++ codes " ") ++ c) ++ 10 ∷ [] ≡ a ++ (line_of (codes "memory" ∷ n ∷ w ∷ d ∷ c ∷ []) ++ 10 ∷ [])
regrouped a n w d c = simp append_assoc

pub head_puts : (a n w d c x1 x2 x3 x4 x5 x6 x7 x8 : List ℕ) → x1 ≡ a ++ codes "memory " → x2 ≡ x1 ++ n → x3 ≡ x2 ++ codes " " → x4 ≡ x3 ++ w → x5 ≡ x4 ++ codes " " → x6 ≡ x5 ++ d → x7 ≡ x6 ++ codes " " → x8 ≡ x7 ++ c
    → x8 ++ 10 ∷ [] ≡ a ++ (line_of (codes "memory" ∷ n ∷ w ∷ d ∷ c ∷ []) ++ 10 ∷ [])
head_puts a n w d c x1 x2 x3 x4 x5 x6 x7 x8 e1 e2 e3 e4 e5 e6 e7 e8 =
    let all : x8 ≡ (((((((a ++ codes "memory ") ++ n) ++ codes " ") ++ w) ++ codes " ") ++ d) ++ codes " ") ++ c = rw (e8, e7, e6, e5, e4, e3, e2, e1) refl in
    ap (λ (l : List ℕ). l ++ 10 ∷ []) all ∙ regrouped a n w d c
