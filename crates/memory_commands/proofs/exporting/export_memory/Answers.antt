use Rattle.lisa_tree.specs.Descriptions.{description_tree}
use Rattle.lisa_outcomes.proofs.Stages.{passed_replies, stopped_replies}
use Rattle.checked_descriptions.specs.Checked.{AfterChecks}
use Rattle.memory_commands.specs.Exports.{ExportsChecked}
use Rattle.memory_commands.proofs.exporting.export_memory.Goals as goal

pub export_tree-requires-clause-spelled : goal.export_tree-requires-clause-spelled
export_tree-requires-clause-spelled g c = record { bytes = c.args.description.now; spells = c.in-Ok.ensures.found }

pub returns-in-Ok : goal.returns-in-Ok
returns-in-Ok g c =
    passed_replies {T = Unit {0}} description_tree _ _ (λ d. AfterChecks d (ExportsChecked c.args.format c.args.image.now c.args.memory.now)) c.in-Ok.description _ _ _ _ _ c.in-Ok.ensures c.export_tree.ensures

pub returns-in-Err : goal.returns-in-Err
returns-in-Err g c =
    stopped_replies {T = Unit {0}} description_tree _ _ (λ d. AfterChecks d (ExportsChecked c.args.format c.args.image.now c.args.memory.now)) c.in-Err.end _ _ c.in-Err.ensures
