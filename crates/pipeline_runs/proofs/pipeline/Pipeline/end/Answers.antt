use Rattle.pipeline_time.specs.States.{log_of}
use Rattle.pipeline_runs.proofs.Lasts.{ends_so, ended_so}
use Rattle.pipeline_runs.proofs.pipeline.Pipeline.end.Goals as goal

pub returns-clause-shows : goal.returns-clause-shows
returns-clause-shows g c bits levels now seen words_are below =
    let old = c.args.self.now in
    let moment = g.B.Behaves.moment old.edge.store in
    let core = g.B.Behaves.core old.edge.store in
    let new = c.close.new.self in
    let ends = ends_so core c.args.plan.now c.requires.planned moment old.edge.queues old.edge.slot c.slot_made-slot.result c.held-held.result c.flushed-flushed.result old.words bits levels now c.held-held.ensures c.flushed-flushed.ensures (c.slot_made-slot.ensures bits now seen) seen words_are below in
    ended_so core old.edge.queues c.finish.new.self moment (g.B.Behaves.lasting new) old.edge.slot c.slot_made-slot.result c.held-held.result c.flushed-flushed.result old.words c.next_words-self.result bits levels now c.requires.tables ends c.finish.ensures c.close.ensures.lasting (c.next_words-self.ensures (log_of core now) levels ends) seen below
