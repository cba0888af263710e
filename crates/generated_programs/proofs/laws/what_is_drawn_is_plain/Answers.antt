use Rattle.rand_pcg.specs.Pcg.{pcg64}
use Rattle.generated_programs.proofs.Drawn.{next_is, next_plain}
use Rattle.generated_programs.proofs.Programmed.{chosen_from}
use Rattle.generated_programs.proofs.laws.what_is_drawn_is_plain.Goals as goal

pub returns-clause-instruction : goal.returns-clause-instruction
returns-clause-instruction c = λ d memory g accepted covered has. next_is d pcg64 g (chosen_from d accepted covered memory has)

pub returns-clause-plain : goal.returns-clause-plain
returns-clause-plain c = λ d memory g accepted covered has. next_plain d pcg64 g (chosen_from d accepted covered memory has)
