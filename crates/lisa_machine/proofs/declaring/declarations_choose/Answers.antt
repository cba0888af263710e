use Rattle.lisa_machine.proofs.Entries.{entry_chooses}
use Rattle.lisa_machine.proofs.declaring.declarations_choose.Goals as goal

pub returns : goal.returns
returns c = λ d i e is. entry_chooses d i e is
