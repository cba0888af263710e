use Rattle.std.proofs.Common.{◌≡◌, List}
use Rattle.lisa_engine.specs.Memory.{Memory}
use Rattle.lisa_object.specs.Texts.{image_text}
use Rattle.lisa_outcomes.specs.Outcomes.{Outcome, Finished}
use Rattle.lisa_outcomes.proofs.Stages.{passed_replies, stopped_replies}
use Rattle.lisa_outcomes.proofs.Writing.{written_replies}
use Rattle.checked_descriptions.specs.ToolViews.{checked_of}
use Rattle.assembler_commands.specs.Links.{stamped}
use Rattle.assembler_commands.proofs.linking.link_read.Goals as goal

pub returns-in-Ok : goal.returns-in-Ok
returns-in-Ok g c =
    let d = (checked_of c.args.tools.now).tree in
    passed_replies {X = List Memory} {T = Unit {0}} (λ image. image) _ _ (λ (image : List Memory) (outcome : Outcome). outcome ≡ Finished (image_text (stamped d image))) c.in-Ok.image _ _ _ _ _ c.in-Ok.ensures.finds
    (written_replies _ _ _ _ _ _ (rw c.requires.digest at c.write_image.ensures))

pub returns-in-Err : goal.returns-in-Err
returns-in-Err g c =
    let d = (checked_of c.args.tools.now).tree in
    stopped_replies {X = List Memory} {T = Unit {0}} (λ image. image) _ _ (λ (image : List Memory) (outcome : Outcome). outcome ≡ Finished (image_text (stamped d image))) c.in-Err.end _ _ c.in-Err.ensures.finds
