use Rattle.verdict_promises.proofs.Stages.{found_as, refused_as}
use Rattle.verdict_promises.proofs.laws.stages_are_of_bytes.Goals as goal

pub returns-clause-found : goal.returns-clause-found
returns-clause-found c = found_as

pub returns-clause-refused : goal.returns-clause-refused
returns-clause-refused c = refused_as
