use Rattle.lowered_values.proofs.Lowering.{computed_scratch}
use Rattle.lowered_values.proofs.laws.expressions_are_scratch.Goals as goal

pub returns : goal.returns
returns c s from e = computed_scratch s from e
