use Rattle.std.proofs.Common.{◌≡◌, length}
use Rattle.lisa_engine.specs.PinValues.{IsFor}
use Rattle.machine_parts.specs.Parts.{pins_of}
use Rattle.lisa_sim.specs.Simulators.{description_of}
use Rattle.simulator_tests.proofs.edges.count_edges.Given as goal

abbrev pub invariant-each : goal.invariant-each
invariant-each l = record {
  schedule : IsFor (pins_of (description_of l.simulator)) l.schedule;
  room : length l.pins ≡ length (pins_of (description_of l.simulator));
}
