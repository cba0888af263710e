-- What the code answers, by what reading on lists gives.
use Rattle.std.specs.Prelude.{◌≡◌, ℕ, ◌<◌, ◌^◌, ◌⊎◌, List, Option, Some, None, Result, Ok, Err}
use Rattle.std.specs.List.{fold}
use Rattle.lisa_engine.specs.Memory.{Memory}
use Rattle.hex_files.specs.declared.faults.HexFault.{HexFault}
use Rattle.hex_files.specs.declared.faults.HexFault.TheVariants.{NoMemory}
use Rattle.hex_files.specs.Maps.{Write, stored, values_of}
use Rattle.hex_files.specs.HexMachine.{Step}

-- the definition gives this fault, unless memory was wanting
abbrev pub Misses : {Y : Type 0} → HexFault → Result Y HexFault → Type 0
Misses NoMemory read = Unit {0}
Misses fault read = read ≡ Err fault

-- what a function answered, seen by view, is what the definition gives, unless memory was wanting
abbrev pub Gives : {X Y : Type 0} → (X → Y) → Result X HexFault → Result Y HexFault → Type 0
Gives view (Ok x) read = read ≡ Ok (view x)
Gives view (Err fault) read = Misses fault read

-- a line's writes were stored, and this is the base behind it, or its fault, unless memory was wanting
abbrev pub Steps : List ℕ → List ℕ → Result (Option ℕ) HexFault → Result Step HexFault → Type 0
Steps old new (Ok base) read = (ws : List Write) × (read ≡ Ok (ws, base)) × (new ≡ fold stored old ws)
Steps old new (Err fault) read = Misses fault read

-- the base that is in force, small enough
abbrev pub IsSmall : Option ℕ → Type 0
IsSmall None = Unit {0}
IsSmall (Some base) = base < 2 ^ 32

-- the bytes that these are, when what is still read has been stored in them
abbrev pub bytes_with : List ℕ → Result (List Write) HexFault → Result (List ℕ) HexFault
bytes_with values (Err fault) = Err fault
bytes_with values (Ok ws) = Ok (fold stored values ws)

-- the bytes up to the last one that is given
abbrev pub values_in : Result (List Write) HexFault → Result (List ℕ) HexFault
values_in (Err fault) = Err fault
values_in (Ok ws) = Ok (values_of ws)

-- the answer, unless memory was wanting
abbrev pub IsUnlessNoMemory : Result Memory HexFault → Result Memory HexFault → Type 0
IsUnlessNoMemory expected result = (result ≡ expected) ⊎ (result ≡ Err NoMemory)
