use Rattle.assembler_commands.proofs.ObjectFiles.{read_finds, unread_finds}
use Rattle.assembler_commands.proofs.objects.object_of.Goals as goal

pub returns-in-Ok : goal.returns-in-Ok
returns-in-Ok c = read_finds c.objects_are_unique.ensures c.args.bytes.now c.args.number c.in-Ok.object c.in-Ok.ensures.found

pub returns-in-Err : goal.returns-in-Err
returns-in-Err c = rw c.unread.ensures (unread_finds c.args.bytes.now c.args.number c.in-Err.fault c.in-Err.ensures.fault c.in-Err.ensures.only)
