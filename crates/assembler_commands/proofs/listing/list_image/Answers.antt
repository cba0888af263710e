use Rattle.lisa_tree.specs.Descriptions.{description_tree}
use Rattle.lisa_outcomes.proofs.Stages.{passed_replies, stopped_replies}
use Rattle.checked_descriptions.specs.Checked.{AfterChecks}
use Rattle.assembler_commands.specs.Listed.{ListsChecked}
use Rattle.assembler_commands.proofs.listing.list_image.Goals as goal

pub list_tree-requires-clause-spelled : goal.list_tree-requires-clause-spelled
list_tree-requires-clause-spelled g c = record { bytes = c.args.description.now; spells = c.in-Ok.ensures.found }

pub returns-in-Ok : goal.returns-in-Ok
returns-in-Ok g c = passed_replies {T = Unit {0}} description_tree _ _ (λ d. AfterChecks d (ListsChecked c.args.image.now)) c.in-Ok.description _ _ _ _ _ c.in-Ok.ensures c.list_tree.ensures

pub returns-in-Err : goal.returns-in-Err
returns-in-Err g c = stopped_replies {T = Unit {0}} description_tree _ _ (λ d. AfterChecks d (ListsChecked c.args.image.now)) c.in-Err.end _ _ c.in-Err.ensures
