use Rattle.program_laws.proofs.Refusing.{requests_refuse, runs_refuse, faults_are_told}
use Rattle.program_laws.proofs.refusals.runs_refuse_first_faults.Goals as goal

pub returns-clause-requests : goal.returns-clause-requests
returns-clause-requests c = requests_refuse

pub returns-clause-runs : goal.returns-clause-runs
returns-clause-runs c = runs_refuse _ c.words_ask_for_one.ensures

pub returns-clause-always : goal.returns-clause-always
returns-clause-always c = faults_are_told _ c.words_ask_for_one.ensures
