-- A list in pieces, one at a time.
use Rattle.std.proofs.Common.{◌≡◌, ℕ, zero, suc, ◌+◌, ◌-◌, ◌*◌, ◌/◌, ◌<◌, List, [], ◌∷◌, length, map, take, drop, length-drop, refl, sym, ap, ◌∙◌, arith, ⊎_elim}
use Rattle.std.specs.List.{range_with_len}
use Rattle.std.proofs.lemmas.Bool.{cases_lt}
use Rattle.std.proofs.lemmas.List.{drop-drop}
use Rattle.std.proofs.Math.Nat.{add-div_right, div-eq_of_lt}
use Rattle.hex_files.specs.HexText.{pieces}

piece : ℕ → List ℕ → ℕ → List ℕ
piece size xs i = take size (drop (i * size) xs)

count : ℕ → ℕ → ℕ
count size n = (n + (size - 1)) / size

pieces_are : (size : ℕ) (xs : List ℕ) → pieces size xs ≡ map (piece size xs) (range_with_len 0 (count size (length xs)))
unfolding pieces piece count
pieces_are size xs = refl

count_none : (size : ℕ) → 0 < size → count size 0 ≡ 0
unfolding count
count_none size some = div-eq_of_lt {n = 0 + (size - 1)} {m = size} (omega arith)

-- what a positive number comes to
counted : (size n : ℕ) → 0 < size → 0 < n → count size n ≡ (n - 1) / size + 1
unfolding count
counted size n some pos = let e : n + (size - 1) ≡ n - 1 + size = omega arith in ap (λ (k : ℕ). k / size) e ∙ add-div_right (n - 1) some

count_rest : (size n : ℕ) → 0 < size → 0 < n → count size (n - size) ≡ (n - 1) / size
count_rest size n some pos = ⊎_elim
    (λ lt. counted size (n - size) some (omega arith) ∙ (let e : n - size - 1 + size ≡ n - 1 = omega arith in sym (add-div_right (n - size - 1) some) ∙ ap (λ (k : ℕ). k / size) e))
    (λ le. (let e : n - size ≡ 0 = omega arith in ap (count size) e) ∙ count_none size some ∙ sym (div-eq_of_lt {n = n - 1} {m = size} (omega arith)))
    (cases_lt size n)

moved : (f g : ℕ → List ℕ) → ((i : ℕ) → f (i + 1) ≡ g i) → (a n : ℕ) → map f (range_with_len (a + 1) n) ≡ map g (range_with_len a n)
moved f g h a zero = refl
moved f g h a (suc n) = ap (λ (p : List ℕ). p ∷ map f (range_with_len (a + 1 + 1) n)) (h a) ∙ ap (λ (ps : List (List ℕ)). g a ∷ ps) (moved f g h (a + 1) n)

next_piece : (size : ℕ) (xs : List ℕ) (i : ℕ) → piece size xs (i + 1) ≡ piece size (drop size xs) i
unfolding piece
next_piece size xs i = let e : (i + 1) * size ≡ size + i * size = omega arith in ap (λ (k : ℕ). take size (drop k xs)) e ∙ ap (take size) (sym (drop-drop (i * size) size xs))

first_piece : (size : ℕ) (xs : List ℕ) → piece size xs 0 ≡ take size xs
unfolding piece
first_piece size xs = let e : 0 * size ≡ 0 = omega arith in ap (λ (k : ℕ). take size (drop k xs)) e

pub pieces_none : (size : ℕ) → 0 < size → pieces size [] ≡ []
pieces_none size some = pieces_are size [] ∙ ap (λ (n : ℕ). map (piece size []) (range_with_len 0 n)) (count_none size some)

pub pieces_some : (size : ℕ) (xs : List ℕ) → 0 < size → 0 < length xs → pieces size xs ≡ take size xs ∷ pieces size (drop size xs)
pieces_some size xs some pos =
    pieces_are size xs
    ∙ (let e : count size (length xs) ≡ suc (count size (length (drop size xs))) = omega (arith, counted size (length xs) some pos, count_rest size (length xs) some pos, ap (count size) (length-drop size xs)) in
    ap (λ (n : ℕ). map (piece size xs) (range_with_len 0 n)) e)
    ∙ ap (λ (p : List ℕ). p ∷ map (piece size xs) (range_with_len (0 + 1) (count size (length (drop size xs))))) (first_piece size xs)
    ∙ ap (λ (ps : List (List ℕ)). take size xs ∷ ps) (moved (piece size xs) (piece size (drop size xs)) (next_piece size xs) 0 (count size (length (drop size xs))) ∙ sym (pieces_are size (drop size xs)))
