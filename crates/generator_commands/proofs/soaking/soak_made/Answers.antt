use Rattle.std.proofs.Common.{◌≡◌, ◌∙◌, ap}
use Rattle.lisa_outcomes.specs.Outcomes.{Outcome, Finished}
use Rattle.lisa_outcomes.proofs.Stages.{memory_replies}
use Rattle.generator_commands.specs.Reports.{report_text}
use Rattle.generator_commands.proofs.Kept.{told}
use Rattle.generator_commands.proofs.soaking.soak_made.Goals as goal

pub returns-in-Err : goal.returns-in-Err
returns-in-Err g c = memory_replies {T = Unit {0}} _ _ _

pub returns-in-Ok-report_text : goal.returns-in-Ok-report_text
returns-in-Ok-report_text g c = told {T = Unit {0}} _ _ _ _ _ _ _ (c.in-Ok-report_text.ensures ∙ ap report_text c.in-Ok.ensures) (rw c.deref.ensures.value at c.write_text.ensures)

pub returns : goal.returns
returns g c = memory_replies {T = Unit {0}} _ _ _
