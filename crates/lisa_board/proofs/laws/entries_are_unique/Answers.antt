use Rattle.lisa_board.proofs.RunLaws.{count_is, are_fed, only_fed}
use Rattle.lisa_board.proofs.laws.entries_are_unique.Goals as goal

pub returns-clause-count : goal.returns-clause-count
returns-clause-count c = count_is

pub returns-clause-fed : goal.returns-clause-fed
returns-clause-fed c = are_fed

pub returns-clause-only : goal.returns-clause-only
returns-clause-only c = only_fed
