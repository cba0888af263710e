use Rattle.std.proofs.Common.{arith}
use Rattle.assembler_commands.proofs.LineCounts.{lines_at_most}
use Rattle.assembler_commands.proofs.Sourced.{sourced_finds, unsourced_finds}
use Rattle.assembler_commands.proofs.assembling.lines_of.Goals as goal

pub read_source-requires : goal.read_source-requires
read_source-requires c = omega (arith, lines_at_most c.args.bytes.now, c.requires)

pub returns-in-Ok : goal.returns-in-Ok
returns-in-Ok c = sourced_finds c.args.bytes.now c.in-Ok.lines c.in-Ok.ensures

pub returns-in-Err : goal.returns-in-Err
returns-in-Err c = rw c.unassembled.ensures (unsourced_finds c.args.bytes.now c.in-Err.fault c.in-Err.ensures)
