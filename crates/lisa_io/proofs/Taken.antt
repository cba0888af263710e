-- What a read from a place takes, and what is left.
use Rattle.std.proofs.Common.{◌≡◌, ℕ, ◌+◌, ◌-◌, ◌<◌, ◌≤◌, List, [], ◌∷◌, ◌++◌, length, take, drop, min, refl, sym, ap, ◌∙◌, arith, length-drop}
use Rattle.std.proofs.lemmas.List.{take-append-drop, drop-drop, length-take-le}

pub drop-plus : (i j : ℕ) (xs : List ℕ) → drop (i + j) xs ≡ drop j (drop i xs)
drop-plus i j xs = sym (drop-drop j i xs)

pub taken : (xs into : List ℕ) (at k : ℕ) → take k into ≡ take k (drop at xs) → drop at xs ≡ take k into ++ drop (at + k) xs
taken xs into at k same = sym (ap (λ t. t ++ drop (at + k) xs) same ∙ ap (λ t. take k (drop at xs) ++ t) (drop-plus at k xs) ∙ take-append-drop k (drop at xs))

pub nothing : (xs : List ℕ) → length xs ≡ 0 → xs ≡ []
nothing [] e = refl
nothing (x ∷ xs) e = absurd (omega arith)

pub ended : (xs : List ℕ) (at k n : ℕ) → k ≡ min (length xs - at) n → k ≡ 0 → 0 < n → drop (at + k) xs ≡ []
ended xs at k n is none some = nothing (drop (at + k) xs) (omega (arith, length-drop (at + k) xs, length-drop at xs))

-- what stands at the front after a piece was written behind it
pub written : (old now new room piece : List ℕ) (len count : ℕ) → now ≡ old → room ≡ new → count ≤ length piece → take (len + length (take count piece)) new ≡ take len now ++ take count piece
    → take (len + count) room ≡ take len old ++ take count piece
written old now new room piece len count same is within put =
    ap (take (len + count)) is ∙ (rw (length-take-le count piece within) at put) ∙ ap (λ t. take len t ++ take count piece) same
