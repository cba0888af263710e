-- Answers of checks.
use Rattle.std.specs.Prelude.{◌≡◌, ◌⊎◌, Option, Some, None, Result, Ok, Err}
use Rattle.vcd_trace.specs.declared.faults.VcdFault.{VcdFault}
use Rattle.vcd_trace.specs.declared.faults.VcdFault.TheVariants.{NoMemory}

-- the fault, where there is one
abbrev pub checked : Option VcdFault → Result (Unit {0}) VcdFault
checked None = Ok tt
checked (Some fault) = Err fault

-- the answer, unless memory was wanting
abbrev pub IsUnlessNoMemory : {T : Type 0} → Result T VcdFault → Result T VcdFault → Type 0
IsUnlessNoMemory expected result = (result ≡ expected) ⊎ (result ≡ Err NoMemory)
