use Rattle.instruction_texts.proofs.Tiles.{may_be_compared}
use Rattle.instruction_texts.proofs.laws.forms_are_readable.Goals as goal

pub returns : goal.returns
returns c = may_be_compared
