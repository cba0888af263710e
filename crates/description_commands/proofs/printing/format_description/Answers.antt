use Rattle.lisa_tree.specs.Descriptions.{description_tree}
use Rattle.description_commands.specs.Formats.{Formats}
use Rattle.lisa_outcomes.proofs.Stages.{passed_replies, stopped_replies}
use Rattle.lisa_outcomes.proofs.Writing.{written_replies}
use Rattle.description_commands.proofs.printing.format_description.Goals as goal

pub returns-in-Ok : goal.returns-in-Ok
returns-in-Ok g c = passed_replies {T = Unit {0}} description_tree _ _ Formats c.in-Ok.description _ _ _ _ _ c.in-Ok.ensures (written_replies _ _ _ _ _ _ c.format_tree.ensures)

pub returns-in-Err : goal.returns-in-Err
returns-in-Err g c = stopped_replies {T = Unit {0}} description_tree _ _ Formats c.in-Err.end _ _ c.in-Err.ensures
