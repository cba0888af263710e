use Rattle.std.proofs.Common.{arith}
use Rattle.lisa_activation.proofs.Places.{none_past, none_here, found_here}
use Rattle.lisa_activation.proofs.queues.least_due.Goals as goal

pub returns-in-Some : goal.returns-in-Some
returns-in-Some c =
    let found = c.in-Some.ensures in
    found_here c.args.columns.now c.args.stage c.args.first c.loop-place.place c.due_word-word.result c.start_in.result c.due_word-word.ensures c.start_in.ensures.start c.loop-place.invariant c.in-Some.bit found.0 found.1 found.2 found.3

pub loop-place-preserved : goal.loop-place-preserved
loop-place-preserved c =
    none_here c.args.columns.now c.args.stage c.args.first c.loop-place.place c.due_word-word.result c.start_in.result c.due_word-word.ensures c.start_in.ensures.start c.loop-place.invariant c.in_default.ensures

pub returns : goal.returns
returns c = none_past c.args.columns.now c.args.stage c.args.first c.loop-place.place (omega arith) c.loop-place.invariant
