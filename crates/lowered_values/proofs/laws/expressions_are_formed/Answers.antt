use Rattle.lowered_values.proofs.Lowering.{computed_formed}
use Rattle.lowered_values.proofs.laws.expressions_are_formed.Goals as goal

pub returns : goal.returns
returns c p s e from is lies = computed_formed p s e from is lies
