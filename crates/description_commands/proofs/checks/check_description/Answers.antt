use Rattle.lisa_tree.specs.Descriptions.{description_tree}
use Rattle.description_commands.specs.Checks.{Checks}
use Rattle.lisa_outcomes.proofs.Stages.{passed_replies, stopped_replies}
use Rattle.description_commands.proofs.checks.check_description.Goals as goal

pub check_tree-requires : goal.check_tree-requires
check_tree-requires g c = record { bytes = c.args.bytes.now; spells = c.in-Ok.ensures.found }

pub returns-in-Ok : goal.returns-in-Ok
returns-in-Ok g c = passed_replies {T = Unit {0}} description_tree _ _ Checks c.in-Ok.description _ _ _ _ _ c.in-Ok.ensures c.check_tree.ensures

pub returns-in-Err : goal.returns-in-Err
returns-in-Err g c = stopped_replies {T = Unit {0}} description_tree _ _ Checks c.in-Err.end _ _ c.in-Err.ensures
