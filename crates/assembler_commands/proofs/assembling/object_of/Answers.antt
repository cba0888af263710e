use Rattle.std.proofs.Common.{map}
use Rattle.asm_source.specs.Plain.{line_tree}
use Rattle.checked_descriptions.specs.ToolViews.{checked_of}
use Rattle.assembler_commands.proofs.Sourced.{object_finds, unobject_finds}
use Rattle.assembler_commands.proofs.assembling.object_of.Goals as goal

pub returns-in-Ok-assembled : goal.returns-in-Ok-assembled
returns-in-Ok-assembled c =
    let d = (checked_of c.args.tools.now).tree in
    let ls = map line_tree c.args.lines.now in
    let law = c.sources_have_one_answer.ensures in
    object_finds d ls (λ o p. law.object d ls o p c.requires.tools.accepted c.requires.tools.instructions.0) (law.either d ls) c.in-Ok-assembled.object c.in-Ok-assembled.ensures.object

pub returns : goal.returns
returns c =
    let d = (checked_of c.args.tools.now).tree in
    let ls = map line_tree c.args.lines.now in
    let law = c.sources_have_one_answer.ensures in
    rw c.unassembled.ensures
    (unobject_finds d ls (λ o p. law.object d ls o p c.requires.tools.accepted c.requires.tools.instructions.0) (law.either d ls) c.in-Err-assembled.fault c.in-Err-assembled.ensures.fault)
