-- What the code answers, by what reading on lists gives.
use Rattle.std.specs.Prelude.{◌≡◌, ℕ, ◌+◌, ◌⊎◌, List, [], ◌∷◌, length, Option, Some, None, Result, Ok, Err}
use Rattle.std.specs.List.{fold}
use Rattle.std.specs.Global.{Vec}
use Rattle.lisa_engine.specs.Memory.{Memory}
use Rattle.lisa_engine.specs.declared.parts.ArrayItem.{ArrayItem}
use Rattle.hex_files.specs.declared.faults.MemhFault.{MemhFault}
use Rattle.hex_files.specs.declared.faults.MemhFault.TheVariants.{NoMemory}
use Rattle.hex_files.specs.Maps.{Write, stored}
use Rattle.hex_files.specs.Arrays.{with_cells}
use Rattle.hex_files.specs.MemhReading.{Placed, words_from, cell_fault}
use Rattle.hex_files.specs.MemhMachine.{writes_from}

-- the words where so many bytes stand before the first of them, and this text behind it
abbrev pub words_after : ℕ → Option (ℕ × List ℕ × List ℕ) → List Placed
words_after at None = []
words_after at (Some (skipped, word, rest)) = (at + skipped, word) ∷ words_from (at + skipped + length word) rest

-- the memory of these cells, when what is still read has been stored in them
abbrev pub with_rest : ArrayItem → List ℕ → Result (List Write) MemhFault → Result Memory MemhFault
with_rest array cells (Err fault) = Err fault
with_rest array cells (Ok ws) = Ok (with_cells array (fold stored cells ws))

abbrev pub Misses : MemhFault → Result Memory MemhFault → Type 0
Misses NoMemory expected = Unit {0}
Misses fault expected = expected ≡ Err fault

-- a value was stored in its cell, and this is the next one's index, or what is wrong with it, unless memory was wanting
abbrev pub PutsCell : ArrayItem → ℕ → ℕ → List ℕ → List ℕ → Result ℕ MemhFault → Type 0
PutsCell array index value old new (Ok next) = (cell_fault array index value ≡ None) × (next ≡ index + 1) × (new ≡ stored old (index, value))
PutsCell array index value old new (Err NoMemory) = Unit {0}
PutsCell array index value old new (Err fault) = cell_fault array index value ≡ Some fault

-- a word at a place and those behind it come to what those behind it come to after its step, or to its fault, unless memory was wanting
abbrev pub ReadsWord : ArrayItem → ℕ → ℕ → List ℕ → List Placed → List ℕ → List ℕ → Result ℕ MemhFault → Type 0
ReadsWord array at index text later old new (Ok next) = with_rest array old (writes_from array index ((at, text) ∷ later)) ≡ with_rest array new (writes_from array next later)
ReadsWord array at index text later old new (Err fault) = Misses fault (with_rest array old (writes_from array index ((at, text) ∷ later)))

-- these cells of the memory, or its fault, unless memory was wanting
abbrev pub Gives : ArrayItem → Result (Vec ℕ) MemhFault → Result Memory MemhFault → Type 0
Gives array (Ok cells) expected = expected ≡ Ok (with_cells array cells.items)
Gives array (Err fault) expected = Misses fault expected

-- the answer, unless memory was wanting
abbrev pub IsUnlessNoMemory : Result Memory MemhFault → Result Memory MemhFault → Type 0
IsUnlessNoMemory expected result = (result ≡ expected) ⊎ (result ≡ Err NoMemory)
