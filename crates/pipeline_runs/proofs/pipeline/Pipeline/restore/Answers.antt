use Rattle.pipeline_runs.proofs.Places.{shown_between, restored_shows}
use Rattle.pipeline_runs.proofs.pipeline.Pipeline.restore.Goals as goal

pub restore-requires : goal.restore-requires
restore-requires g c =
    let old = c.args.self.now.edge in
    let reached = c.requires.reached in
    shown_between (g.B.Behaves.core old.store) old.queues c.args.plan.now c.requires.equipped reached.0 reached.1.0 (g.S.Shows.shown c.args.shows.now) reached.1.1

pub returns-clause-shows : goal.returns-clause-shows
returns-clause-shows g c first entries memory same words =
    let old = c.args.self.now.edge in
    restored_shows (g.B.Behaves.core old.store) old.queues c.args.plan.now c.requires.equipped first entries (g.S.Shows.shown c.args.shows.now) c.restore.new.queues (g.B.Behaves.lasting old.store) c.args.words.now c.restore.ensures memory same words
