use Rattle.refusal_lines.proofs.FieldTexts.{at_most_three}
use Rattle.refusal_lines.proofs.fault_lines.description_line.Goals as goal

pub returns : goal.returns
returns c = rw (c.head_of.ensures, c.first_field.ensures, c.second_field.ensures, c.third_field.ensures) (at_most_three c.args.fault.now)
