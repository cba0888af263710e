use Rattle.std.proofs.Common.{◌∙◌, List, ℕ, ap, sym, subst}
use Rattle.lisa_engine.specs.Shape.{IsFitting}
use Rattle.lisa_engine.specs.PinValues.{pins_at}
use Rattle.lisa_engine.proofs.Played.{pins_fit}
use Rattle.machine_parts.specs.Parts.{pins_of}
use Rattle.lisa_sim.specs.Simulators.{description_of}
use Rattle.simulator_tests.proofs.edges.make_edge.Goals as goal

-- the schedule's values fit the pins
pub edge_seen-requires : goal.edge_seen-requires
edge_seen-requires c =
    let pins = pins_of (description_of c.args.simulator.now) in
    let lines = c.args.schedule.now in
    subst (λ (values : List ℕ). IsFitting pins values) (sym (c.at.ensures ∙ ap (λ n. pins_at n lines c.args.edge) c.requires.room))
    (pins_fit pins lines c.args.edge c.requires.schedule)
