use Rattle.machine_parts.proofs.Lengths.{arrays_told}
use Rattle.machine_parts.proofs.laws.arrays_are_told.Goals as goal

pub returns : goal.returns
returns c = λ d. arrays_told d
