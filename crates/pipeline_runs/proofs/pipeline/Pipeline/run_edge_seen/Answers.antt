use Rattle.pipeline_runs.proofs.Leads.{leads}
use Rattle.pipeline_runs.proofs.Told.{seen_on}
use Rattle.pipeline_runs.proofs.pipeline.Pipeline.run_edge_seen.Goals as goal

pub returns-clause-leads : goal.returns-clause-leads
returns-clause-leads g c first entries shows =
    let old = c.args.self.now in
    let come = c.run_turns.new.self in
    let new = c.end.new.self in
    let core = g.B.Behaves.core in
    leads (core old.edge.store) (core come.edge.store) (g.B.Behaves.lasting new.edge.store) (g.B.Behaves.moment come.edge.store) come.edge.queues new.edge.queues come.edge.slot come.words new.words c.args.pins.now first entries c.run_turns.ensures.core c.requires.equipped.sound (c.run_turns.ensures.comes first entries shows) c.end.ensures.shows

pub returns-clause-seen : goal.returns-clause-seen
returns-clause-seen g c first entries shows =
    let come = c.run_turns.new.self in
    let core = g.B.Behaves.core in
    seen_on (core c.args.self.now.edge.store) (core come.edge.store) (g.B.Behaves.moment come.edge.store) come.edge.queues come.edge.slot come.words c.args.pins.now first entries c.seen_at_end-seen.result c.run_turns.ensures.core c.seen_at_end-seen.ensures (c.run_turns.ensures.comes first entries shows)
