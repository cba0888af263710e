use Rattle.std.proofs.Common.{List}
use Rattle.lisa_engine.specs.Memory.{Memory}
use Rattle.lisa_outcomes.specs.RunViews.{bytes_of}
use Rattle.lisa_outcomes.proofs.Stages.{passed_replies, stopped_replies}
use Rattle.engine_commands.specs.Schedules.{schedule_bytes}
use Rattle.checked_descriptions.specs.ToolViews.{checked_of}
use Rattle.description_commands.specs.Occupancies.{OccupiesMade}
use Rattle.description_commands.proofs.occupancy.count_with_tools.Goals as goal

pub returns-in-Ok : goal.returns-in-Ok
returns-in-Ok g c =
    passed_replies {X = List Memory} {T = Unit {0}} (λ image. image) _ _ (OccupiesMade c.args.edges (checked_of c.args.tools.now) (schedule_bytes (bytes_of c.args.bytes.now).schedule)) c.in-Ok.image _ _ _ _ _
    (rw c.description.ensures at c.in-Ok.ensures.finds) (rw c.schedule_text.ensures at c.count_with_image.ensures)

pub returns-in-Err : goal.returns-in-Err
returns-in-Err g c =
    stopped_replies {X = List Memory} {T = Unit {0}} (λ image. image) _ _ (OccupiesMade c.args.edges (checked_of c.args.tools.now) (schedule_bytes (bytes_of c.args.bytes.now).schedule)) c.in-Err.end _ _
    (rw c.description.ensures at c.in-Err.ensures.finds)
