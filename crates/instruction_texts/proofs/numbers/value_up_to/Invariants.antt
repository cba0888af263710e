use Rattle.std.specs.Prelude.{drop}
use Rattle.instruction_texts.proofs.Summing.{Summed}
use Rattle.instruction_texts.proofs.numbers.value_up_to.Given as goal

abbrev pub invariant-digits : goal.invariant-digits
invariant-digits l = Summed l.base l.digits (drop l.i l.digits) l.sum
