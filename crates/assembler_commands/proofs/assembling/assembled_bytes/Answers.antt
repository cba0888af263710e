use Rattle.std.proofs.Common.{arith}
use Rattle.assembler_commands.proofs.LineCounts.{lines_at_most}
use Rattle.assembler_commands.proofs.assembling.assembled_bytes.Goals as goal

pub make-requires-clause-words : goal.make-requires-clause-words
make-requires-clause-words c = λ k a low. let place = c.requires.places.places k a low in record { narrow = place.narrow; wide = place.wide }

pub returns-in-Ok-clause-object : goal.returns-in-Ok-clause-object
returns-in-Ok-clause-object c = rw c.in-Ok.ensures.0 at c.assemble_bytes.ensures.object

pub returns-in-Ok-clause-fault : goal.returns-in-Ok-clause-fault
returns-in-Ok-clause-fault c = rw c.in-Ok.ensures.0 at c.assemble_bytes.ensures.fault

pub assemble_bytes-requires-clause-short : goal.assemble_bytes-requires-clause-short
assemble_bytes-requires-clause-short c = omega (arith, lines_at_most c.args.source.now, c.requires.short)
