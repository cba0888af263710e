use Rattle.std.proofs.Common.{arith}
use Rattle.lisa_forms.proofs.Patterned.{forms_level}
use Rattle.lisa_forms.proofs.forms.Forms.count.Goals as goal

pub returns-clause-of_description : goal.returns-clause-of_description
returns-clause-of_description c d are = let level = forms_level d c.args.self.now are in omega (arith, level)
