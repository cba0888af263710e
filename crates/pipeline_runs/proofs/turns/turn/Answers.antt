use Rattle.std.proofs.Common.{suc, sym, ◌∙◌, subst}
use Rattle.pipeline_time.specs.Running.{Running}
use Rattle.pipeline_time.specs.Edges.{waiting}
use Rattle.pipeline_runs.specs.Runs.{Represents}
use Rattle.pipeline_runs.proofs.Dues.{turn_free, turn_busy}
use Rattle.pipeline_runs.proofs.turns.turn.Goals as goal

pub returns-then-is_free-clause-runs : goal.returns-then-is_free-clause-runs
returns-then-is_free-clause-runs g c bits now stands seen waits =
    let core = g.B.Behaves.core c.args.edge.now.store in
    let new = c.turn_from.new.edge in
    subst (λ (n : Running g.B.Behaves.Moment). Represents (g.B.Behaves.moment new.store) new.queues new.slot bits n)
    (turn_free core stands c.args.stage now (g.B.Behaves.moment c.args.edge.now.store) c.args.plan.now.occurrences.items seen.moment_is (sym c.is_free.ensures ∙ c.if-is_free.true) c.requires.equipped.planned.nodes)
    (c.turn_from.ensures.runs bits now (waiting core stands (suc c.args.stage) now) seen waits)

pub returns-else-is_free-clause-runs : goal.returns-else-is_free-clause-runs
returns-else-is_free-clause-runs g c bits now stands seen waits =
    let core = g.B.Behaves.core c.args.edge.now.store in
    let old = c.args.edge.now in
    subst (λ (n : Running g.B.Behaves.Moment). Represents (g.B.Behaves.moment old.store) old.queues old.slot bits n)
    (turn_busy core stands c.args.stage now (g.B.Behaves.moment old.store) seen.moment_is (sym c.is_free.ensures ∙ c.if-is_free.false)) seen
