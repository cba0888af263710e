use Rattle.assembler_commands.proofs.assembling.assembled.Goals as goal

pub make-requires-clause-words : goal.make-requires-clause-words
make-requires-clause-words c = λ k a low. let place = c.requires.places.places k a low in record { narrow = place.narrow; wide = place.wide }

pub returns-in-Ok-clause-object : goal.returns-in-Ok-clause-object
returns-in-Ok-clause-object c = rw c.in-Ok.ensures.0 at c.assemble.ensures.object

pub returns-in-Ok-clause-fault : goal.returns-in-Ok-clause-fault
returns-in-Ok-clause-fault c = rw c.in-Ok.ensures.0 at c.assemble.ensures.fault
