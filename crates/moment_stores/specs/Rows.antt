-- Tables of rows.
use Rattle.std.specs.Prelude.{ℕ, suc, ◌≡◌, ◌<◌, ◌+◌, Bool, false, List, [], ◌∷◌, length, map, slice_index_or, slice_set, if◌then◌else◌}
use Rattle.std.specs.List.{range_with_len}
use Rattle.std.specs.Global.{Vec}

abbrev pub rows : {T : Type 0} → List (Vec T) → List (List T)
rows {T} all = map (λ (row : Vec T). row.items) all

-- the value at a place of a row
abbrev pub value_at : {T : Type 0} → List (List T) → ℕ → ℕ → T → T
value_at all row place d = slice_index_or (slice_index_or all row []) place d

-- another value at a place of a row
abbrev pub place_set : {T : Type 0} → List (List T) → ℕ → ℕ → T → List (List T)
place_set all row place value = slice_set all row (slice_set (slice_index_or all row []) place value)

-- so many rows of so many values, by row and place
abbrev pub table : {T : Type 0} → ℕ → ℕ → (ℕ → ℕ → T) → List (List T)
table count width value = map (λ s. map (value s) (range_with_len 0 width)) (range_with_len 0 count)

pub record IsTable {T : Type 0} (count width : ℕ) (all : List (List T)) : Type 0 where
  pub counted : length all ≡ count
  pub widths : (k : ℕ) → k < count → length (slice_index_or all k []) ≡ width

-- ---- marks

abbrev pub mark_at : List (List Bool) → ℕ → ℕ → Bool
mark_at marks row place = value_at marks row place false

-- how many places have no mark
abbrev pub unmarked : List Bool → ℕ
unmarked [] = 0
unmarked (mark ∷ rest) = if mark then unmarked rest else suc (unmarked rest)

abbrev pub all_unmarked : List (List Bool) → ℕ
all_unmarked [] = 0
all_unmarked (row ∷ rest) = unmarked row + all_unmarked rest

abbrev pub all_places : {T : Type 0} → List (List T) → ℕ
all_places [] = 0
all_places (row ∷ rest) = length row + all_places rest
