use Rattle.checked_descriptions.specs.ToolViews.{checked_of}
use Rattle.assembler_commands.proofs.Sourced.{assembled_replies, unassembled_replies}
use Rattle.lisa_outcomes.proofs.Writing.{written_replies}
use Rattle.assembler_commands.proofs.assembling.assemble_with_tools.Goals as goal

pub returns-in-Ok : goal.returns-in-Ok
returns-in-Ok g c =
    let d = (checked_of c.args.tools.now).tree in
    let law = c.sources_have_one_answer.ensures in
    assembled_replies d c.args.source.now (λ ls o p. law.object d ls o p c.requires.tools.accepted c.requires.tools.instructions.0) (λ ls. law.either d ls) c.in-Ok.object c.in-Ok.ensures.object _ _ _ _ _
    (written_replies _ _ _ _ _ _ c.write_object.ensures)

pub returns-in-Err : goal.returns-in-Err
returns-in-Err g c =
    let d = (checked_of c.args.tools.now).tree in
    let law = c.sources_have_one_answer.ensures in
    rw c.unassembled.ensures
    (unassembled_replies d c.args.source.now (λ ls o p. law.object d ls o p c.requires.tools.accepted c.requires.tools.instructions.0) (λ ls. law.either d ls) c.in-Err.fault c.in-Err.ensures.fault _ _)
