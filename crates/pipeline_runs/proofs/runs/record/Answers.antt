use Rattle.std.proofs.Common.{arith, ◌∙◌}
use Rattle.std.proofs.lemmas.Bool.{ne_eqb}
use Rattle.lisa_activation.specs.Queued.{above}
use Rattle.pipeline_runs.proofs.Steps.{recorded, due_entered}
use Rattle.pipeline_runs.proofs.runs.record.Goals as goal

pub returns-clause-runs : goal.returns-clause-runs
returns-clause-runs g c bits now own seen =
    recorded (g.B.Behaves.core c.args.edge.now.store) c.args.edge.now.queues c.enter.new.self (g.B.Behaves.moment c.args.edge.now.store) c.args.edge.now.slot bits now c.args.here c.args.number own c.requires.tables c.requires.within c.requires.activator c.enter.ensures seen

pub returns-clause-due : goal.returns-clause-due
returns-clause-due g c staged =
    let at = c.requires.tables.below c.args.number c.requires.within ∙ c.requires.activator in
    due_entered c.args.edge.now.queues c.enter.new.self c.args.number c.enter.ensures (ne_eqb (above c.args.edge.now.queues c.args.number) 0 (λ e. omega (arith, at, e, staged)))
