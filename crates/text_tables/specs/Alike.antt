-- How many pieces forms share with the ones before them.
use Rattle.std.specs.Prelude.{◌≡◌, ◌<◌, ℕ, suc, List, length, take, slice_index_or}
use Rattle.instruction_texts.specs.declared.shapes.Shape.{Shape}
use Rattle.text_tables.specs.Shared.{shapes_at}

-- so many pieces at the front of the form k are those of the form before it, if there is one
abbrev pub IsAlikeToBefore : List (List Shape) → ℕ → ℕ → Type 0
IsAlikeToBefore all k count = (j : ℕ) → suc j ≡ k → take count (shapes_at all k) ≡ take count (shapes_at all j)

-- so it is for each of the first n forms
pub record AreAlikeUpTo (all : List (List Shape)) (n : ℕ) (counts : List ℕ) : Type 0 where
  pub level : length counts ≡ n
  pub same : (k : ℕ) → k < n → IsAlikeToBefore all k (slice_index_or counts k 0)

abbrev pub AreAlike : List (List Shape) → List ℕ → Type 0
AreAlike all counts = AreAlikeUpTo all (length all) counts
