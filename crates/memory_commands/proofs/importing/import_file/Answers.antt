use Rattle.std.proofs.Common.{◌≡◌}
use Rattle.lisa_tree.specs.Descriptions.{description_tree}
use Rattle.lisa_engine.specs.Memory.{Memory}
use Rattle.lisa_object.specs.Texts.{image_text}
use Rattle.lisa_outcomes.specs.Outcomes.{Outcome, Finished}
use Rattle.lisa_outcomes.proofs.Stages.{passed_replies, stopped_replies}
use Rattle.lisa_outcomes.proofs.Writing.{written_replies}
use Rattle.memory_commands.specs.Imports.{image_alone}
use Rattle.memory_commands.proofs.importing.import_file.Goals as goal

pub returns-in-Ok : goal.returns-in-Ok
returns-in-Ok g c =
    passed_replies {X = Memory} {T = Unit {0}} (λ memory. memory) _ _ (λ (memory : Memory) (outcome : Outcome). outcome ≡ Finished (image_text (image_alone (description_tree c.args.description.now) memory))) c.in-Ok.memory _ _ _ _ _ c.in-Ok.ensures
    (written_replies _ _ _ _ _ _ c.write_alone.ensures)

pub returns-in-Err : goal.returns-in-Err
returns-in-Err g c =
    stopped_replies {X = Memory} {T = Unit {0}} (λ memory. memory) _ _ (λ (memory : Memory) (outcome : Outcome). outcome ≡ Finished (image_text (image_alone (description_tree c.args.description.now) memory))) c.in-Err.end _ _ c.in-Err.ensures
