use Rattle.std.proofs.Common.{◌≡◌}
use Rattle.lisa_outcomes.specs.Outcomes.{Outcome, Finished}
use Rattle.lisa_outcomes.proofs.Stages.{passed_replies, stopped_replies}
use Rattle.lisa_outcomes.proofs.Writing.{written_replies}
use Rattle.checked_descriptions.specs.Checked.{Checked}
use Rattle.description_commands.specs.Checks.{counts_of, counts_text}
use Rattle.checked_descriptions.specs.ToolViews.{checked_of}
use Rattle.description_commands.proofs.checks.check_tree.Goals as goal

pub returns-in-Ok : goal.returns-in-Ok
returns-in-Ok g c =
    passed_replies {T = Unit {0}} checked_of _ _ (λ (checked : Checked) (outcome : Outcome). outcome ≡ Finished (counts_text (counts_of checked))) c.in-Ok.tools _ _ _ _ _ c.in-Ok.ensures.finds
    (written_replies _ _ _ _ _ _ c.write_counts.ensures)

pub returns-in-Err : goal.returns-in-Err
returns-in-Err g c =
    stopped_replies {T = Unit {0}} checked_of _ _ (λ (checked : Checked) (outcome : Outcome). outcome ≡ Finished (counts_text (counts_of checked))) c.in-Err.end _ _ c.in-Err.ensures.finds
