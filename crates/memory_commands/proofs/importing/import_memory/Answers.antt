use Rattle.lisa_tree.specs.Descriptions.{description_tree}
use Rattle.lisa_outcomes.proofs.Stages.{passed_replies, stopped_replies}
use Rattle.checked_descriptions.specs.Checked.{AfterChecks}
use Rattle.memory_commands.specs.Imports.{ImportsChecked}
use Rattle.memory_commands.proofs.importing.import_memory.Goals as goal

pub import_tree-requires-clause-spelled : goal.import_tree-requires-clause-spelled
import_tree-requires-clause-spelled g c = record { bytes = c.args.description.now; spells = c.in-Ok.ensures.found }

pub returns-in-Ok : goal.returns-in-Ok
returns-in-Ok g c =
    passed_replies {T = Unit {0}} description_tree _ _ (λ d. AfterChecks d (ImportsChecked c.args.format c.args.file.now c.args.memory.now)) c.in-Ok.description _ _ _ _ _ c.in-Ok.ensures c.import_tree.ensures

pub returns-in-Err : goal.returns-in-Err
returns-in-Err g c =
    stopped_replies {T = Unit {0}} description_tree _ _ (λ d. AfterChecks d (ImportsChecked c.args.format c.args.file.now c.args.memory.now)) c.in-Err.end _ _ c.in-Err.ensures
