use Rattle.generated_programs.proofs.Programmed.{one_program}
use Rattle.generated_programs.proofs.laws.programs_are_one.Goals as goal

pub returns : goal.returns
returns c = one_program
