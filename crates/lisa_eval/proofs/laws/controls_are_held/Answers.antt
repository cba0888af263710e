use Rattle.lisa_eval.proofs.Controls.{stalls_held, flushes_held}
use Rattle.lisa_eval.proofs.laws.controls_are_held.Goals as goal

pub returns-clause-stalls : goal.returns-clause-stalls
returns-clause-stalls c = stalls_held

pub returns-clause-flushes : goal.returns-clause-flushes
returns-clause-flushes c = flushes_held
