-- The parts of a text, and its lines.
use Rattle.std.proofs.Common.{◌≡◌, ℕ, ◌+◌, ◌<◌, ◌≤◌, Bool, true, false, cond, List, [], ◌∷◌, length, take, drop, refl, sym, ap, ◌∙◌, arith}
use Rattle.std.specs.Prelude.{not, ◌==◌}
use Rattle.std.specs.List.{slice_split, onto_first, position_or_len}
use Rattle.std.specs.Str.Lines.{lines, lines_of_parts, strip_carriage_return}
use Rattle.std.proofs.lemmas.List.{take_all}
use Rattle.std.proofs.lemmas.List.Splits.{slice_split-cons_no, slice_split_first, length-slice_split}
use Rattle.std.proofs.lemmas.List.Sums.{count_by-le-length}

-- where no element passes, the text is one part
whole : (p : ℕ → Bool) (xs : List ℕ) → length xs ≤ position_or_len p xs → slice_split p xs ≡ xs ∷ []
whole p [] h = refl
whole p (x ∷ xs) h = go (p x) refl h (whole p xs)
  where
    go : (b : Bool) → p x ≡ b → length (x ∷ xs) ≤ cond (not b) (1 + position_or_len p xs) 0 → (length xs ≤ position_or_len p xs → slice_split p xs ≡ xs ∷ []) → slice_split p (x ∷ xs) ≡ (x ∷ xs) ∷ []
    go true e le more = absurd (omega arith)
    go false e le more = slice_split-cons_no p x xs e ∙ ap (onto_first x) (more (omega arith))

pub cut_nowhere : (p : ℕ → Bool) (xs front : List ℕ) (n : ℕ) → n ≡ position_or_len p xs → length xs ≤ n → front ≡ take n xs → slice_split p xs ≡ front ∷ []
cut_nowhere p xs front n is le e = whole p xs (omega arith) ∙ ap (λ (l : List ℕ). l ∷ []) (sym (e ∙ take_all n xs le))

pub cut_there : (p : ℕ → Bool) (xs front rest : List ℕ) (n : ℕ) → n ≡ position_or_len p xs → n < length xs → front ≡ take n xs → rest ≡ drop (n + 1) xs → slice_split p xs ≡ front ∷ slice_split p rest
cut_there p xs front rest n is lt e f =
    slice_split_first p xs 0 (omega arith) ∙ ap (λ (k : ℕ). take k xs ∷ slice_split p (drop (k + 1) xs)) (sym is)
    ∙ ap (λ (l : List ℕ). l ∷ slice_split p (drop (n + 1) xs)) (sym e) ∙ ap (λ (l : List ℕ). front ∷ slice_split p l) (sym f)

-- parts behind a first one leave it a line of its own
pub first_line : (front : List ℕ) (parts : List (List ℕ)) → 0 < length parts → lines_of_parts (front ∷ parts) ≡ strip_carriage_return front ∷ lines_of_parts parts
first_line front [] h = absurd (omega arith)
first_line front (p ∷ ps) h = refl

pub line_there : (text front rest : List ℕ) → slice_split (λ b. b == 10) text ≡ front ∷ slice_split (λ b. b == 10) rest → lines text ≡ strip_carriage_return front ∷ lines rest
line_there text front rest e = ap lines_of_parts e ∙ first_line front (slice_split (λ b. b == 10) rest) (omega (arith, length-slice_split (λ b. b == 10) rest))

-- a text has at most one line more than bytes
pub length-lines-le : (bytes : List ℕ) → length (lines bytes) ≤ length bytes + 1
length-lines-le bytes = omega (arith, at_most (slice_split (λ b. b == 10) bytes), length-slice_split (λ b. b == 10) bytes, count_by-le-length (λ (b : ℕ). b == 10) bytes)
  where
    at_most_one : (p : List ℕ) (none : Bool) → length (cond none [] (p ∷ [])) ≤ 1
    at_most_one p true = omega arith
    at_most_one p false = omega arith

    one_line : (p : List ℕ) → length (lines_of_parts (p ∷ [])) ≤ 1
    one_line p = at_most_one p (length p == 0)

    at_most : (parts : List (List ℕ)) → length (lines_of_parts parts) ≤ length parts
    at_most [] = omega arith
    at_most (p ∷ []) = one_line p
    at_most (p ∷ q ∷ more) = let r = at_most (q ∷ more) in omega (arith, r)
