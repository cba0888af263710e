use Rattle.std.proofs.Common.{◌≡◌, ℕ, List}
use Rattle.std.specs.Global.{Vec}
use Rattle.lisa_outcomes.specs.Outcomes.{Outcome, Finished}
use Rattle.lisa_outcomes.proofs.Stages.{passed_replies, stopped_replies}
use Rattle.lisa_outcomes.proofs.Writing.{written_replies}
use Rattle.generator_commands.proofs.generating.write_with_tools.Goals as goal

pub returns-in-Ok : goal.returns-in-Ok
returns-in-Ok g c =
    passed_replies {X = Vec ℕ} {T = Unit {0}} (λ text. text.items) _ _ (λ (text : List ℕ) (outcome : Outcome). outcome ≡ Finished text) c.in-Ok.text _ _ _ _ _ c.in-Ok.ensures
    (written_replies _ _ _ _ _ _ (rw c.deref.ensures.value at c.write_text.ensures))

pub returns-in-Err : goal.returns-in-Err
returns-in-Err g c = stopped_replies {X = Vec ℕ} {T = Unit {0}} (λ text. text.items) _ _ (λ (text : List ℕ) (outcome : Outcome). outcome ≡ Finished text) c.in-Err.end _ _ c.in-Err.ensures
