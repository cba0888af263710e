use Rattle.lisa_outcomes.proofs.Stages.{passed_replies, stopped_replies}
use Rattle.checked_descriptions.specs.ToolViews.{checked_of}
use Rattle.memory_commands.specs.Exports.{ExportsPart}
use Rattle.memory_commands.proofs.exporting.export_image.Goals as goal

pub returns-in-Ok : goal.returns-in-Ok
returns-in-Ok g c =
    passed_replies {X = Unit {0}} {T = Unit {0}} (λ _. c.args.image.now) _ _ (ExportsPart c.args.format c.args.memory.now (checked_of c.args.tools.now).tree) tt _ _ _ _ _ c.in-Ok.ensures c.export_part.ensures

pub returns-in-Err : goal.returns-in-Err
returns-in-Err g c =
    stopped_replies {X = Unit {0}} {T = Unit {0}} (λ _. c.args.image.now) _ _ (ExportsPart c.args.format c.args.memory.now (checked_of c.args.tools.now).tree) c.in-Err.end _ _ c.in-Err.ensures
