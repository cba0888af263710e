use Rattle.placed_programs.proofs.Lines.{entries_again}
use Rattle.placed_programs.proofs.laws.entries_are_read_back.Goals as goal

pub returns : goal.returns
returns c = λ es. entries_again es
