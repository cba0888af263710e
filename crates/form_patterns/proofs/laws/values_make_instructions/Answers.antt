use Rattle.form_patterns.proofs.Filling.{instruction_of, one_instruction, its_values}
use Rattle.form_patterns.proofs.laws.values_make_instructions.Goals as goal

pub returns-clause-some : goal.returns-clause-some
returns-clause-some c = instruction_of

pub returns-clause-one : goal.returns-clause-one
returns-clause-one c = one_instruction

pub returns-clause-within : goal.returns-clause-within
returns-clause-within c = its_values
