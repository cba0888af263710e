use Rattle.std.proofs.Common.{◌≡◌}
use Rattle.lisa_engine.specs.declared.parts.ArrayItem.{ArrayItem}
use Rattle.lisa_outcomes.specs.Outcomes.{Outcome, Finished}
use Rattle.lisa_outcomes.proofs.Stages.{passed_replies, stopped_replies}
use Rattle.lisa_outcomes.proofs.Writing.{written_replies}
use Rattle.memory_commands.specs.Exports.{part_for, memory_text}
use Rattle.memory_commands.proofs.exporting.export_part.Goals as goal

pub returns-in-Ok : goal.returns-in-Ok
returns-in-Ok g c =
    passed_replies {T = Unit {0}} (λ memory. memory.now) _ _ (λ (memory : ArrayItem) (outcome : Outcome). outcome ≡ Finished (memory_text c.args.format (part_for c.args.image.now memory))) c.in-Ok.array _ _ _ _ _ c.in-Ok.ensures.finds
    (written_replies _ _ _ _ _ _ c.write_part.ensures)

pub returns-in-Err : goal.returns-in-Err
returns-in-Err g c =
    stopped_replies {T = Unit {0}} (λ memory. memory.now) _ _ (λ (memory : ArrayItem) (outcome : Outcome). outcome ≡ Finished (memory_text c.args.format (part_for c.args.image.now memory))) c.in-Err.end _ _ c.in-Err.ensures.finds
