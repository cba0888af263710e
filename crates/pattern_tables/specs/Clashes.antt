-- The first two plain forms whose literal bits agree.
use Rattle.std.specs.Prelude.{◌≡◌, ◌≤◌, ℕ, Bool, List, slice_index_or, bit_or}
use Rattle.pattern_tables.specs.Patterns.{Clash}
use Rattle.pattern_tables.specs.declared.bit_pattern.BitPattern.{BitPattern}
use Rattle.pattern_tables.specs.declared.overlaps.Overlap.{Overlap}

-- of this form and a later one, the least later one
pub record IsClashWith (patterns : List BitPattern) (plain : List Bool) (i : ℕ) (o : Overlap) : Type 0 where
  pub is : o.first ≡ i
  pub clash : Clash patterns plain o.first o.second
  pub second : (j : ℕ) → Clash patterns plain o.first j → o.second ≤ j
  pub word : (d : BitPattern) → o.word ≡ bit_or (slice_index_or patterns o.first d).pattern (slice_index_or patterns o.second d).pattern

pub record IsFirstClash (patterns : List BitPattern) (plain : List Bool) (o : Overlap) : Type 0 where
  pub clash : Clash patterns plain o.first o.second
  pub first : (i j : ℕ) → Clash patterns plain i j → o.first ≤ i
  pub second : (j : ℕ) → Clash patterns plain o.first j → o.second ≤ j
  pub word : (d : BitPattern) → o.word ≡ bit_or (slice_index_or patterns o.first d).pattern (slice_index_or patterns o.second d).pattern
