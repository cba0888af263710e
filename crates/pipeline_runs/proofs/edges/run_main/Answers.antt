use Rattle.std.proofs.Common.{subst}
use Rattle.pipeline_time.specs.Acts.{Node}
use Rattle.pipeline_time.specs.Running.{run_occurrence}
use Rattle.lisa_activation.proofs.Places.{read_at}
use Rattle.pipeline_runs.specs.Runs.{Represents}
use Rattle.pipeline_runs.proofs.Tables.{has_main, first_is_main, ready_at}
use Rattle.pipeline_runs.proofs.edges.run_main.Goals as goal

pub run_occurrence-requires : goal.run_occurrence-requires
run_occurrence-requires g c =
    let core = g.B.Behaves.core c.args.edge.now.store in
    let plan = c.args.plan.now in
    let e = read_at plan.occurrences.items 0 c.index-main.result.now (has_main core c.requires.sound plan c.requires.planned) c.index-main.ensures in
    ready_at core c.args.edge.now.queues plan c.requires 0 c.index-main.result.now e

pub returns-clause-runs : goal.returns-clause-runs
returns-clause-runs g c bits now seen =
    let core = g.B.Behaves.core c.args.edge.now.store in
    let plan = c.args.plan.now in
    let new = c.run_occurrence.new.edge in
    let e = read_at plan.occurrences.items 0 c.index-main.result.now (has_main core c.requires.sound plan c.requires.planned) c.index-main.ensures in
    subst (λ (node : Node). Represents (g.B.Behaves.moment new.store) new.queues new.slot bits (run_occurrence core 0 node now))
    (first_is_main core c.requires.sound plan c.requires.planned c.index-main.result.now e)
    (c.run_occurrence.ensures.runs bits now seen)
