-- How many lines a text has.
use Rattle.std.proofs.Common.{ℕ, ◌+◌, ◌≤◌, Bool, true, false, cond, List, [], ◌∷◌, length, ap, arith}
use Rattle.std.specs.Prelude.{◌==◌}
use Rattle.std.specs.List.{slice_split, onto_first}
use Rattle.std.specs.Str.Lines.{lines, lines_of_parts}
use Rattle.std.proofs.lemmas.List.Splits.{length-slice_split}
use Rattle.text_lines.proofs.Parts.{first_line}

at_most_one : (part : List ℕ) (none : Bool) → length (cond none [] (part ∷ [])) ≤ 1
at_most_one part true = omega arith
at_most_one part false = omega arith

-- a byte in front of the first part makes at most one line more
one_more : (b : ℕ) (parts : List (List ℕ)) → length (lines_of_parts (onto_first b parts)) ≤ 1 + length (lines_of_parts parts)
one_more b [] = let one = at_most_one (b ∷ []) (length (b ∷ []) == 0) in omega (arith, one)
one_more b (part ∷ []) = let one = at_most_one (b ∷ part) (length (b ∷ part) == 0) in omega (arith, one)
one_more b (part ∷ next ∷ more) = omega arith

-- a text has at most as many lines as bytes
pub lines_are_few : (bytes : List ℕ) → length (lines bytes) ≤ length bytes
lines_are_few [] = omega arith
lines_are_few (b ∷ bs) = go (b == 10) (lines_are_few bs)
  where
    parts : List (List ℕ)
    parts = slice_split (λ c. c == 10) bs

    go : (t : Bool) → length (lines_of_parts parts) ≤ length bs → length (lines_of_parts (cond t ([] ∷ parts) (onto_first b parts))) ≤ length (b ∷ bs)
    go true rec = omega (arith, rec, ap length (first_line [] parts (omega (arith, length-slice_split (λ c. c == 10) bs))))
    go false rec = omega (arith, rec, one_more b parts)
