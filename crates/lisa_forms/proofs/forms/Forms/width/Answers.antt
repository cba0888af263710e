use Rattle.lisa_forms.proofs.Rootless.{no_width, no_root}
use Rattle.lisa_forms.proofs.forms.Forms.width.Goals as goal

pub returns-clause-of_description : goal.returns-clause-of_description
returns-clause-of_description c = λ d are. are.has_width

pub returns-clause-none : goal.returns-clause-none
returns-clause-none c = λ d accepted are. (λ e. no_root d accepted c.args.self.now.width are.has_width e, λ e. no_width d c.args.self.now.width are.has_width e)
