use Rattle.std.proofs.Common.{length, map}
use Rattle.asm_source.specs.Plain.{token_tree}
use Rattle.asm_source.specs.Parts.{token_at}
use Rattle.asm_source.proofs.Loops.{Along}
use Rattle.asm_source.proofs.instruction.instruction.Given as goal

abbrev pub invariant-each : goal.invariant-each
invariant-each l = Along token_at l.text (map token_tree l.all.items) l.rest

abbrev pub decreases-each : goal.decreases-each
decreases-each l = length l.rest
