use Rattle.pipeline_runs.proofs.Told.{seen_so}
use Rattle.pipeline_runs.proofs.seeing.seen_at_end.Goals as goal

pub returns : goal.returns
returns g c first entries pins words come =
    let edge = c.args.edge.now in
    let core = g.B.Behaves.core edge.store in
    seen_so core c.requires.sound first entries pins edge.queues c.requires.tables (g.B.Behaves.moment edge.store) edge.slot come.seen c.held-held.result c.flushed-flushed.result c.held-held.ensures c.flushed-flushed.ensures c.ran_stages.result c.ran_stages.ensures
