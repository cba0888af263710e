use Rattle.command_promises.proofs.Runs.{runs_shown, runs_only}
use Rattle.command_promises.proofs.laws.runs_show_states.Goals as goal

pub returns-clause-shown : goal.returns-clause-shown
returns-clause-shown c = runs_shown

pub returns-clause-only : goal.returns-clause-only
returns-clause-only c = runs_only
