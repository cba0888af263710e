use Rattle.std.proofs.Common.{List, ℕ}
use Rattle.lisa_engine.specs.Memory.{Memory}
use Rattle.lisa_outcomes.specs.RunViews.{bytes_of}
use Rattle.lisa_outcomes.proofs.Endings.{passed_ends, stopped_ends}
use Rattle.engine_commands.specs.Schedules.{schedule_bytes}
use Rattle.engine_commands.specs.Making.{GivesMade}
use Rattle.description_commands.specs.Runs.{described_machine}
use Rattle.checked_descriptions.specs.ToolViews.{checked_of}
use Rattle.description_commands.proofs.running.do_with_tools.Goals as goal

pub returns-in-Ok-clause-ends : goal.returns-in-Ok-clause-ends
returns-in-Ok-clause-ends g c =
    passed_ends {X = List Memory} {T = Unit {0}} {W = List ℕ} (λ image. image) _ _ _
    (λ lines memories. GivesMade c.args.task (described_machine (checked_of c.args.tools.now) memories) memories (schedule_bytes (bytes_of c.args.bytes.now).schedule) lines) _ _ c.in-Ok.image _ _ _ _ _ (rw c.description.ensures at c.in-Ok.ensures.finds)
    (λ b. (b.0, record { memories = c.in-Ok.image; image = (rw c.description.ensures at c.in-Ok.ensures.finds).found; cut = b.1 })) (rw c.schedule_text.ensures at c.do_with_image.ensures.ends)

pub returns-in-Err-clause-ends : goal.returns-in-Err-clause-ends
returns-in-Err-clause-ends g c =
    stopped_ends {X = List Memory} {T = Unit {0}} {W = List ℕ} (λ image. image) _ _ _
    (λ lines memories. GivesMade c.args.task (described_machine (checked_of c.args.tools.now) memories) memories (schedule_bytes (bytes_of c.args.bytes.now).schedule) lines) _ c.in-Err.end _ _ (rw c.description.ensures at c.in-Err.ensures.finds)
