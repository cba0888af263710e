use Rattle.std.proofs.Common.{List}
use Rattle.lisa_engine.specs.ScheduleLine.{Line}
use Rattle.lisa_outcomes.proofs.Stages.{passed_replies, stopped_replies}
use Rattle.lisa_outcomes.proofs.Writing.{written_replies}
use Rattle.lisa_sim.specs.Simulators.{image_of}
use Rattle.checked_descriptions.specs.ToolViews.{checked_of}
use Rattle.description_commands.specs.Occupancies.{Occupies}
use Rattle.description_commands.proofs.Watching.{machine}
use Rattle.description_commands.proofs.occupancy.count_under.Goals as goal

pub returns-in-Ok : goal.returns-in-Ok
returns-in-Ok g c =
    passed_replies {X = List Line} {T = Unit {0}} (λ lines. lines) _ _ (Occupies c.args.edges (checked_of c.args.tools.now).tree (image_of c.args.simulator.now) (machine c.args.simulator.now)) c.in-Ok.schedule _ _ _ _ _ (rw c.pins.ensures at c.in-Ok.ensures.finds)
    (written_replies _ _ _ _ _ _ c.write_stages.ensures)

pub returns-in-Err : goal.returns-in-Err
returns-in-Err g c =
    stopped_replies {X = List Line} {T = Unit {0}} (λ lines. lines) _ _ (Occupies c.args.edges (checked_of c.args.tools.now).tree (image_of c.args.simulator.now) (machine c.args.simulator.now)) c.in-Err.end _ _ (rw c.pins.ensures at c.in-Err.ensures.finds)
