use Rattle.lisa_activation.proofs.Coming.{EnteredTo}
use Rattle.lisa_activation.proofs.restores.enter_all.Given as goal

abbrev pub invariant-loop-occurrence : goal.invariant-loop-occurrence
invariant-loop-occurrence g l = EnteredTo (g.S.Shows.shown l.shows) l.steps l.fn.queues l.queues l.occurrence
