use Rattle.pipeline_runs.proofs.Leads.{comes}
use Rattle.pipeline_runs.proofs.pipeline.Pipeline.run_turns.Goals as goal

pub returns-clause-comes : goal.returns-clause-comes
returns-clause-comes g c =
    let old = c.args.self.now in
    let begun = c.begin.new.self in
    let main = c.run_main.new.edge in
    let turned = c.turns.new.edge in
    let moment = g.B.Behaves.moment in
    let core = g.B.Behaves.core in
    comes (g.B.Behaves.lasting old.edge.store) (moment begun.edge.store) (moment main.store) (moment turned.store) old.edge.queues begun.edge.queues main.queues turned.queues begun.edge.slot main.slot turned.slot old.words begun.words c.args.pins.now (core old.edge.store) (core begun.edge.store) (core main.store) c.begin.ensures.core c.run_main.ensures.core c.args.plan.now.stages c.requires.equipped.planned.stages c.begin.ensures.words c.begin.ensures.runs c.run_main.ensures.runs c.turns.ensures.runs
