use Rattle.instruction_texts.proofs.LineStarts.{start_is_there}
use Rattle.instruction_texts.proofs.beginnings.starts_of.Goals as goal

pub returns-clause-found : goal.returns-clause-found
returns-clause-found c ss gs sized m = rw c.in_ok-starts.ensures (start_is_there m sized)
