use Rattle.std.proofs.Common.{List}
use Rattle.lisa_engine.specs.Memory.{Memory}
use Rattle.lisa_outcomes.proofs.Stages.{passed_replies, stopped_replies}
use Rattle.checked_descriptions.specs.ToolViews.{checked_of}
use Rattle.memory_commands.specs.Exports.{ExportsImage}
use Rattle.memory_commands.proofs.exporting.export_with_tools.Goals as goal

pub returns-in-Ok : goal.returns-in-Ok
returns-in-Ok g c =
    passed_replies {X = List Memory} {T = Unit {0}} (λ image. image) _ _ (ExportsImage c.args.format c.args.memory.now (checked_of c.args.tools.now).tree) c.in-Ok.image _ _ _ _ _ (rw c.description.ensures at c.in-Ok.ensures.finds)
    c.export_image.ensures

pub returns-in-Err : goal.returns-in-Err
returns-in-Err g c =
    stopped_replies {X = List Memory} {T = Unit {0}} (λ image. image) _ _ (ExportsImage c.args.format c.args.memory.now (checked_of c.args.tools.now).tree) c.in-Err.end _ _ (rw c.description.ensures at c.in-Err.ensures.finds)
