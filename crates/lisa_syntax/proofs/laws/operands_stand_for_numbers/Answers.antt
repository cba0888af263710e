use Rattle.lisa_syntax.proofs.Operands.{lines_are_texts}
use Rattle.lisa_syntax.proofs.laws.operands_stand_for_numbers.Goals as goal

pub returns : goal.returns
returns c = lines_are_texts
