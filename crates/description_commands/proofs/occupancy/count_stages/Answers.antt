use Rattle.lisa_tree.specs.Descriptions.{description_tree}
use Rattle.lisa_outcomes.specs.RunViews.{bytes_of}
use Rattle.lisa_outcomes.proofs.Stages.{passed_replies, stopped_replies}
use Rattle.checked_descriptions.specs.Checked.{AfterChecks}
use Rattle.description_commands.specs.Occupancies.{OccupiesChecked}
use Rattle.description_commands.proofs.occupancy.count_stages.Goals as goal

pub count_tree-requires-clause-spelled : goal.count_tree-requires-clause-spelled
count_tree-requires-clause-spelled g c = record { bytes = (bytes_of c.args.bytes.now).main; spells = c.in-Ok.ensures.found }

pub returns-in-Ok : goal.returns-in-Ok
returns-in-Ok g c =
    passed_replies {T = Unit {0}} description_tree _ _ (λ d. AfterChecks d (OccupiesChecked c.args.edges (bytes_of c.args.bytes.now))) c.in-Ok.description _ _ _ _ _ c.in-Ok.ensures c.count_tree.ensures

pub returns-in-Err : goal.returns-in-Err
returns-in-Err g c =
    stopped_replies {T = Unit {0}} description_tree _ _ (λ d. AfterChecks d (OccupiesChecked c.args.edges (bytes_of c.args.bytes.now))) c.in-Err.end _ _ c.in-Err.ensures
