use Rattle.std.proofs.Common.{subst}
use Rattle.pipeline_time.specs.Running.{Running, run_occurrence, word_below}
use Rattle.lisa_activation.specs.Queued.{first_above}
use Rattle.pipeline_runs.specs.Runs.{node_of, Represents}
use Rattle.pipeline_runs.proofs.Dues.{none_due, turned}
use Rattle.pipeline_runs.proofs.turns.+turn_from.Goals as goal

pub returns-in_default-clause-runs : goal.returns-in_default-clause-runs
returns-in_default-clause-runs g t c bits now words seen waits =
    let core = g.B.Behaves.core c.args.edge.now.store in
    subst (λ (n : Running g.B.Behaves.Moment). Represents (g.B.Behaves.moment c.args.edge.now.store) c.args.edge.now.queues c.args.edge.now.slot bits n)
    (none_due core c.args.edge.now.queues c.args.stage c.args.word (first_above c.args.after) words c.args.plan.now.occurrences.items now waits c.in_default.ensures) seen

pub returns-in-Some-clause-runs : goal.returns-in-Some-clause-runs
returns-in-Some-clause-runs g t c bits now words seen waits =
    let core = g.B.Behaves.core c.args.edge.now.store in
    let new = c.turn_from.new.edge in
    let found = c.in-Some.ensures in
    turned core (g.B.Behaves.core c.run_one.new.edge.store) c.args.edge.now.queues c.run_one.new.edge.queues (g.B.Behaves.moment new.store) new.queues new.slot bits c.args.stage c.args.word (first_above c.args.after) c.in-Some.number words c.args.plan.now.occurrences.items now c.run_one.ensures.within waits found.0 found.1 found.2 c.run_one.ensures.core c.run_one.ensures.same
    (λ o e w. c.turn_from.ensures.runs bits (run_occurrence core (word_below o.past c.args.word) (node_of o) now) words (c.run_one.ensures.runs bits now seen o e) w)
