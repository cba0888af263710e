use Rattle.lisa_activation.proofs.Coming.{Coming}
use Rattle.lisa_activation.proofs.restores.restore.Given as goal

abbrev pub invariant-loop-steps : goal.invariant-loop-steps
invariant-loop-steps g l = Coming (g.S.Shows.shown l.shows) l.fn.queues l.queues l.steps
