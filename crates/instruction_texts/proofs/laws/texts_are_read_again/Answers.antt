use Rattle.instruction_texts.proofs.TextLaws.{read_again}
use Rattle.instruction_texts.proofs.laws.texts_are_read_again.Goals as goal

pub returns : goal.returns
returns c = read_again
