use Rattle.machine_parts.proofs.Lengths.{registers_counted}
use Rattle.machine_parts.proofs.laws.registers_have_first_values.Goals as goal

pub returns : goal.returns
returns c = λ d. registers_counted d
