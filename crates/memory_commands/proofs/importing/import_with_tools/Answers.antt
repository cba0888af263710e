use Rattle.lisa_outcomes.proofs.Stages.{passed_replies, stopped_replies}
use Rattle.checked_descriptions.specs.ToolViews.{checked_of}
use Rattle.memory_commands.specs.Imports.{ImportsFile}
use Rattle.memory_commands.proofs.importing.import_with_tools.Goals as goal

pub returns-in-Ok : goal.returns-in-Ok
returns-in-Ok g c =
    passed_replies {T = Unit {0}} (λ memory. memory.now) _ _ (ImportsFile c.args.format c.args.file.now (checked_of c.args.tools.now).tree) c.in-Ok.array _ _ _ _ _ c.in-Ok.ensures.finds
    (rw c.description.ensures at c.import_file.ensures)

pub returns-in-Err : goal.returns-in-Err
returns-in-Err g c =
    stopped_replies {T = Unit {0}} (λ memory. memory.now) _ _ (ImportsFile c.args.format c.args.file.now (checked_of c.args.tools.now).tree) c.in-Err.end _ _ c.in-Err.ensures.finds
