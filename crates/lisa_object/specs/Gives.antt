-- What the code answers, by what reading on lists gives.
use Rattle.lisa_object.specs.declared.parts.Stamped.{Stamped}
use Rattle.lisa_object.specs.declared.faults.ImageFault.{ImageFault}
use Rattle.lisa_object.specs.declared.faults.ImageFault.TheVariants as faults
use Rattle.std.specs.Prelude.{ℕ, List, ◌+◌, ◌≤◌, ◌==◌, count_by, ◌≡◌, Option, Some, None, Result, Ok, Err}
use Rattle.lisa_object.specs.declared.faults.Stop.{Stop}
use Rattle.lisa_object.specs.declared.faults.Stop.TheVariants.{Misspelled, NoMemory}

abbrev pub Fails : {Y : Type 0} → Stop → Option Y → Type 0
Fails NoMemory read = Unit {0}
Fails (Misspelled left) read = read ≡ None

abbrev pub Gives : {X Y : Type 0} → (X → Y) → Result X Stop → Option Y → Type 0
Gives view (Ok x) read = read ≡ Some (view x)
Gives view (Err e) read = Fails e read

-- this image, unless memory ran out
abbrev pub IsThis : Stamped → Result Stamped ImageFault → Type 0
IsThis s (Ok t) = t ≡ s
IsThis s (Err faults.NoMemory) = Unit {0}
IsThis s (Err fault) = ⊥

-- the bytes are no image, with a line of theirs, or memory ran out
abbrev pub IsRefusal : List ℕ → ImageFault → Type 0
IsRefusal bytes (faults.NotAnImage line) = line ≤ 1 + count_by (λ b. b == 10) bytes
IsRefusal bytes faults.NoMemory = Unit {0}
IsRefusal bytes fault = ⊥
