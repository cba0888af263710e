use Rattle.command_promises.proofs.Refused.{clocks_firsts, clocks_none}
use Rattle.command_promises.proofs.RefusedTools.{replays_none}
use Rattle.command_promises.proofs.laws.clocks_refuse_first_faults.Goals as goal

pub returns-clause-modules : goal.returns-clause-modules
returns-clause-modules c = clocks_firsts

pub returns-clause-descriptions : goal.returns-clause-descriptions
returns-clause-descriptions c = clocks_none

pub returns-clause-dumps : goal.returns-clause-dumps
returns-clause-dumps c = replays_none
