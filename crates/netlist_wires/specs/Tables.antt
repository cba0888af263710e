-- Tables of keys, and the names that a program may have.
use Rattle.std.specs.Prelude.{◌≡◌, ◌≢◌, ℕ, List, ◌++◌, map, AllPairs, Some}
use Rattle.std.specs.List.{slice_get}
use Rattle.step_program.specs.Programs.{Program}
use Rattle.netlist_wires.specs.declared.keys.Key.{Key}
use Rattle.netlist_wires.specs.Wiring.{Find}

-- a table that finds only what is there
abbrev pub IsFind : Find → Type 0
IsFind find = (keys : List Key) (key : Key) (wire : ℕ) → find keys key ≡ Some wire → slice_get keys wire ≡ Some key

abbrev pub program_names : Program → List (List ℕ)
program_names p = map (λ item. item.name) p.items ++ (map (λ array. array.name) p.arrays ++ map (λ pin. pin.name) p.pins)

-- no two items, arrays or pins share a name
abbrev pub HasDistinctNames : Program → Type 0
HasDistinctNames p = AllPairs (λ a b. a ≢ b) (program_names p)
