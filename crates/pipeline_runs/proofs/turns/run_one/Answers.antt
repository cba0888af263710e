use Rattle.std.proofs.Common.{arith}
use Rattle.lisa_activation.proofs.Places.{read_at}
use Rattle.pipeline_runs.proofs.Tables.{queued_within, ready_at, queued_staged}
use Rattle.pipeline_runs.proofs.Dues.{same_item}
use Rattle.pipeline_runs.proofs.turns.run_one.Goals as goal

pub index-it-requires : goal.index-it-requires
index-it-requires g c =
    let plan = c.args.plan.now in
    let low = queued_within (g.B.Behaves.core c.args.edge.now.store) c.args.edge.now.queues plan c.requires.equipped c.args.number c.args.stage c.requires.stage c.requires.is in
    omega (arith, low, plan.occurrences.ok)

pub run_occurrence-requires : goal.run_occurrence-requires
run_occurrence-requires g c =
    let core = g.B.Behaves.core c.args.edge.now.store in
    let plan = c.args.plan.now in
    let within = queued_within core c.args.edge.now.queues plan c.requires.equipped c.args.number c.args.stage c.requires.stage c.requires.is in
    let e = read_at plan.occurrences.items c.args.number c.index-it.result.now within c.index-it.ensures in
    ready_at core c.args.edge.now.queues plan c.requires.equipped c.args.number c.index-it.result.now e

pub returns-clause-runs : goal.returns-clause-runs
returns-clause-runs g c bits now seen p f =
    let core = g.B.Behaves.core c.args.edge.now.store in
    let plan = c.args.plan.now in
    let new = c.run_occurrence.new.edge in
    let within = queued_within core c.args.edge.now.queues plan c.requires.equipped c.args.number c.args.stage c.requires.stage c.requires.is in
    let e = read_at plan.occurrences.items c.args.number c.index-it.result.now within c.index-it.ensures in
    same_item core c.args.word c.word_below.result (g.B.Behaves.moment new.store) new.queues new.slot bits now c.args.number plan.occurrences.items c.index-it.result.now p e f c.word_below.ensures (c.run_occurrence.ensures.runs bits now seen)

pub returns-clause-within : goal.returns-clause-within
returns-clause-within g c =
    queued_within (g.B.Behaves.core c.args.edge.now.store) c.args.edge.now.queues c.args.plan.now c.requires.equipped c.args.number c.args.stage c.requires.stage c.requires.is

pub returns-clause-same : goal.returns-clause-same
returns-clause-same g c other =
    let core = g.B.Behaves.core c.args.edge.now.store in
    let plan = c.args.plan.now in
    let within = queued_within core c.args.edge.now.queues plan c.requires.equipped c.args.number c.args.stage c.requires.stage c.requires.is in
    let e = read_at plan.occurrences.items c.args.number c.index-it.result.now within c.index-it.ensures in
    c.run_occurrence.ensures.due (queued_staged core c.args.edge.now.queues plan c.requires.equipped c.args.number c.args.stage c.index-it.result.now c.requires.stage c.requires.is e) c.args.stage other
