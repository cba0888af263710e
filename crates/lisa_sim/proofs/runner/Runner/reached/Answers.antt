use Rattle.std.proofs.Common.{subst}
use Rattle.lisa_sim.specs.Runnings.{Running}
use Rattle.lisa_sim.proofs.Keeping.{IsLed, led}
use Rattle.lisa_sim.proofs.runner.Runner.reached.Goals as goal

pub returns : goal.returns
returns c =
    let m = c.self.inside in
    subst (λ (r : Running). IsLed r) c.self.view_is (led m.pipeline.edge.store m.plan m.places.items m.pipeline.edge.queues m.pipeline.words c.self.invariant)
