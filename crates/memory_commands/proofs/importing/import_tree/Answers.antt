use Rattle.lisa_outcomes.proofs.Stages.{passed_replies, stopped_replies}
use Rattle.checked_descriptions.specs.ToolViews.{checked_of}
use Rattle.memory_commands.specs.Imports.{ImportsChecked}
use Rattle.memory_commands.proofs.importing.import_tree.Goals as goal

pub returns-in-Ok : goal.returns-in-Ok
returns-in-Ok g c =
    passed_replies {T = Unit {0}} checked_of _ _ (ImportsChecked c.args.format c.args.file.now c.args.memory.now) c.in-Ok.tools _ _ _ _ _ c.in-Ok.ensures.finds c.import_with_tools.ensures

pub returns-in-Err : goal.returns-in-Err
returns-in-Err g c = stopped_replies {T = Unit {0}} checked_of _ _ (ImportsChecked c.args.format c.args.file.now c.args.memory.now) c.in-Err.end _ _ c.in-Err.ensures.finds
