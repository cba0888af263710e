use Rattle.command_promises.proofs.Runs.{clocks_shown, clocks_only}
use Rattle.command_promises.proofs.laws.clocks_show_states.Goals as goal

pub returns-clause-shown : goal.returns-clause-shown
returns-clause-shown c = clocks_shown

pub returns-clause-only : goal.returns-clause-only
returns-clause-only c = clocks_only
