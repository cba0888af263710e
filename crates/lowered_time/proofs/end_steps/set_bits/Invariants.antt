-- The bits of the first occurrences stand behind the draft.
use Rattle.lowered_time.specs.Pieces.{steps}
use Rattle.lowered_time.specs.Building.{bit_ends}
use Rattle.lowered_time.specs.Code.{Adds}
use Rattle.lowered_time.proofs.end_steps.set_bits.Given as goal

abbrev pub invariant-loop-occurrence : goal.invariant-loop-occurrence
invariant-loop-occurrence g l = Adds (steps (bit_ends (g.P.Parts.core l.parts) (g.P.Parts.operations l.parts) (g.P.Parts.layout l.parts) l.level l.occurrence-index)) l.fn.draft l.draft
