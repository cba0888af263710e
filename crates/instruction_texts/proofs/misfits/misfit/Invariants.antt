use Rattle.std.proofs.Common.{map, take}
use Rattle.asm_source.specs.Plain.{token_tree}
use Rattle.instruction_texts.proofs.Taking.{Taken}
use Rattle.instruction_texts.proofs.misfits.misfit.Given as goal

abbrev pub invariant-shapes : goal.invariant-shapes
invariant-shapes l = Taken (take l.i l.fn.shapes) (map token_tree l.fn.line) (map token_tree l.rest)
