use Rattle.std.proofs.Common.{length}
use Rattle.asm_source.specs.Parts.{label_at}
use Rattle.asm_source.proofs.Loops.{Along}
use Rattle.asm_source.proofs.labels.labels.Given as goal

abbrev pub invariant-each : goal.invariant-each
invariant-each l = Along label_at l.text l.all.items l.rest

abbrev pub decreases-each : goal.decreases-each
decreases-each l = length l.rest
