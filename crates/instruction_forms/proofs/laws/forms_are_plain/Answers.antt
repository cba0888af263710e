use Rattle.lisa_tree.specs.Operations.{is_alias}
use Rattle.instruction_forms.proofs.Wide.{whole_plain}
use Rattle.instruction_forms.proofs.laws.forms_are_plain.Goals as goal

pub returns : goal.returns
returns c d f fits = whole_plain (is_alias d) d f fits
