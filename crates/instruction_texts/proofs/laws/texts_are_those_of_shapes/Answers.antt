use Rattle.instruction_texts.proofs.TextLaws.{writes_are_texts, ambiguous_shapes}
use Rattle.instruction_texts.proofs.laws.texts_are_those_of_shapes.Goals as goal

pub returns-clause-texts : goal.returns-clause-texts
returns-clause-texts c = writes_are_texts

pub returns-clause-ambiguous : goal.returns-clause-ambiguous
returns-clause-ambiguous c = ambiguous_shapes
