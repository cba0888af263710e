-- What is listed so far, before the numbers of those that are left.
use Rattle.generated_programs.proofs.Stepping.{AreListed}
use Rattle.generated_programs.proofs.choices.marked.Given as goal

abbrev pub invariant-loop-number : goal.invariant-loop-number
invariant-loop-number l = AreListed l.marks l.number l.numbers.items
