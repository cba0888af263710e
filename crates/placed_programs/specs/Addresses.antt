-- Addresses: each entry's cells go to its section's memory, behind the cells that this memory has already.
use Rattle.std.specs.Prelude.{ℕ, ◌+◌, ℤ, pos, List, [], ◌∷◌, ◌++◌, Option, Some, None, if◌then◌else◌}
use Rattle.std.specs.Str.{bytes_eq}
use Rattle.placed_programs.specs.Entries.{Entry, Enter, Room, Put, Mark, Equal, Share}

-- how many cells each memory has so far
abbrev pub Counts : Type 0
Counts = List ℕ → ℕ

abbrev pub no_cells : Counts
no_cells memory = 0

-- so many cells more in the memory that is entered
abbrev pub adding : Option (List ℕ) → ℕ → Counts → Counts
adding None n counts = counts
adding (Some m) n counts = λ memory. if bytes_eq memory m then counts memory + n else counts memory

-- how many cells an entry has
abbrev pub entry_size : {C : Type 0} → Entry C → ℕ
entry_size (Enter n w) = 0
entry_size (Room n) = n
entry_size (Put c) = 1
entry_size (Mark n) = 0
entry_size (Equal n v) = 0
entry_size (Share n) = 0

-- the memory that is entered behind an entry
abbrev pub entered : {C : Type 0} → Option (List ℕ) → Entry C → Option (List ℕ)
entered here (Enter n w) = Some n
entered here (Room n) = here
entered here (Put c) = here
entered here (Mark n) = here
entered here (Equal n v) = here
entered here (Share n) = here

abbrev pub counts_after : {C : Type 0} → Counts → Option (List ℕ) → List (Entry C) → Counts
counts_after counts here [] = counts
counts_after counts here (e ∷ es) = counts_after (adding here (entry_size e) counts) (entered here e) es

-- the next cell's address
abbrev pub address : Option (List ℕ) → Counts → ℕ
address None counts = 0
address (Some m) counts = counts m

-- ---- names: a label is the address of the cell that follows it

abbrev pub defined_by : {C : Type 0} → Counts → Option (List ℕ) → Entry C → List (List ℕ × ℤ)
defined_by counts here (Enter n w) = []
defined_by counts here (Room n) = []
defined_by counts here (Put c) = []
defined_by counts here (Mark n) = (n, pos (address here counts)) ∷ []
defined_by counts here (Equal n v) = (n, v) ∷ []
defined_by counts here (Share n) = []

-- the names that entries define, with their values
abbrev pub definitions : {C : Type 0} → Counts → Option (List ℕ) → List (Entry C) → List (List ℕ × ℤ)
definitions counts here [] = []
definitions counts here (e ∷ es) = defined_by counts here e ++ definitions (adding here (entry_size e) counts) (entered here e) es
