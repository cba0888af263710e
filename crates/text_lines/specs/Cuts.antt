-- A text that is cut at a byte, part by part.
use Rattle.std.specs.Prelude.{ℕ, List, [], ◌∷◌, Option, Some, None, ◌==◌}
use Rattle.std.specs.List.{slice_split}
use Rattle.std.specs.Str.Lines.{lines}

-- the parts behind a byte that cuts a text, if there is one
abbrev pub parts_behind : ℕ → Option (List ℕ) → List (List ℕ)
parts_behind byte None = []
parts_behind byte (Some rest) = slice_split (λ b. b == byte) rest

-- the lines where this one is the first and this text stands behind it
abbrev pub lines_from : Option (List ℕ × List ℕ) → List (List ℕ)
lines_from None = []
lines_from (Some x) = x.0 ∷ lines x.1
