use Rattle.lisa_activation.proofs.Places.{NoneDue}
use Rattle.lisa_activation.proofs.queues.least_due.Given as goal

abbrev pub invariant-loop-place : goal.invariant-loop-place
invariant-loop-place l = NoneDue l.columns l.stage l.first l.place
