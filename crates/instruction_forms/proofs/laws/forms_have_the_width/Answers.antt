use Rattle.instruction_forms.proofs.Wide.{whole_width, small_width}
use Rattle.instruction_forms.proofs.laws.forms_have_the_width.Goals as goal

pub returns-clause-width : goal.returns-clause-width
returns-clause-width c d group w is wide f fits = whole_width d group w is wide f fits

pub returns-clause-small : goal.returns-clause-small
returns-clause-small c d group w is wide = small_width d group w is wide
