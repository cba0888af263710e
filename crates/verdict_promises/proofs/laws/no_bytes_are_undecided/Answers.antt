use Rattle.verdict_promises.proofs.Totals.{none_undecided}
use Rattle.verdict_promises.proofs.laws.no_bytes_are_undecided.Goals as goal

pub returns : goal.returns
returns c = none_undecided
