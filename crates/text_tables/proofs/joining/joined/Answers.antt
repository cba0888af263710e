use Rattle.std.proofs.Common.{map, subst}
use Rattle.instruction_texts.specs.Lines.{given}
use Rattle.text_tables.specs.Reading.{IsFoundAmong}
use Rattle.text_tables.specs.declared.table.Found.{Found}
use Rattle.text_tables.proofs.OneMore.{found_alone}
use Rattle.text_tables.proofs.joining.joined.Goals as goal

pub returns-in-Nothing : goal.returns-in-Nothing
returns-in-Nothing c = λ all line ks m h. found_alone all line ks c.args.form c.args.operands m (subst (λ (f : Found). IsFoundAmong all line ks f) c.in-Nothing.is h)

pub returns-in-One : goal.returns-in-One
returns-in-One c = λ all line ks m h. c.beside.ensures all line ks (map given c.args.operands.items) m (subst (λ (f : Found). IsFoundAmong all line ks f) c.in-One.is h)

pub returns : goal.returns
returns c = λ all line ks m h. c.least.ensures all line ks (map given c.args.operands.items) m (subst (λ (f : Found). IsFoundAmong all line ks f) c.in-Two.is h)
