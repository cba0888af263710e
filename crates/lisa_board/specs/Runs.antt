-- A machine on a board with an input: in each edge the pins have the values that the board makes of the rows before it.
use Rattle.std.specs.Prelude.{ℕ, ◌+◌, ◌<◌, ◌≡◌, List, [], ◌∷◌, ◌++◌, length, take, map, slice_index_or}
use Rattle.std.proofs.Common.{zero, suc}
use Rattle.std.specs.List.{range_with_len}
use Rattle.lisa_engine.specs.Shape.{AreEntries}
use Rattle.lisa_engine.specs.Machines.{Machine}
use Rattle.lisa_board.specs.Boards.{Devices}
use Rattle.lisa_board.specs.Feeding.{feed, printed}

-- the rows of the machine's items after the first 0, 1, .. of these entries
abbrev pub rows_of : Machine → List (List ℕ) → List (List ℕ)
rows_of m entries = map (λ n. (m.defined (take n entries)).items) (range_with_len 0 (length entries + 1))

-- the values of the pins in the edges 1 to n, an entry for each
abbrev pub fed_entries : Machine → Devices → List ℕ → ℕ → List (List ℕ)
fed_entries m board input zero = []
fed_entries m board input (suc n) =
    let before = fed_entries m board input n in
    before ++ feed board input (rows_of m before) ∷ []

-- what the console prints in n edges
abbrev pub output : Machine → Devices → List ℕ → ℕ → List ℕ
output m board input n = printed board (rows_of m (fed_entries m board input n))

-- the entries in which each is what the board feeds after the rows before it
abbrev pub AreFed : Machine → Devices → List ℕ → List (List ℕ) → Type 0
AreFed m board input entries = (k : ℕ) → k < length entries → slice_index_or entries k [] ≡ feed board input (rows_of m (take k entries))

-- the items of two machines have the same values after each list of entries that fits the pins
abbrev pub AreAlike : Machine → Machine → Type 0
AreAlike m n = (entries : List (List ℕ)) → AreEntries m.pins entries → (m.defined entries).items ≡ (n.defined entries).items
