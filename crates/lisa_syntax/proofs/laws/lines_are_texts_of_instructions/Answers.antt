use Rattle.lisa_syntax.proofs.OperandLines.{lines_are_of_instructions}
use Rattle.lisa_syntax.proofs.laws.lines_are_texts_of_instructions.Goals as goal

pub returns : goal.returns
returns c = λ d k gs line accepted has. lines_are_of_instructions d accepted has k gs line
