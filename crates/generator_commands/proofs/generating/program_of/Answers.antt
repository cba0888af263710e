use Rattle.assembler_commands.specs.checked_descriptions.ToolViews.{checked_of}
use Rattle.generator_commands.proofs.Drawn.{all_covered, drawn_finds, undrawn_finds}
use Rattle.generator_commands.proofs.generating.program_of.Goals as goal

pub generate-requires-clause-covered : goal.generate-requires-clause-covered
generate-requires-clause-covered c = all_covered (checked_of c.args.tools.now).tree c.requires.instructions

pub returns-in-Ok : goal.returns-in-Ok
returns-in-Ok c =
    let d = (checked_of c.args.tools.now).tree in
    drawn_finds d c.args.number c.args.count (c.programs_are_one.ensures d c.args.number c.args.count) c.in-Ok.text c.in-Ok.ensures.program

pub returns-in-Err : goal.returns-in-Err
returns-in-Err c = rw c.undrawn.ensures (undrawn_finds (checked_of c.args.tools.now).tree c.args.number c.args.count c.in-Err.fault c.in-Err.ensures.fault)
