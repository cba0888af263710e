use Rattle.std.proofs.Common.{List, sym, subst}
use Rattle.form_patterns.specs.instruction_forms.declared.form.Form.{Form}
use Rattle.form_patterns.specs.instruction_forms.Described.{AreForms}
use Rattle.lisa_forms.proofs.forms.Forms.forms.Goals as goal

pub returns-clause-of_description : goal.returns-clause-of_description
returns-clause-of_description c d are = subst (λ (all : List Form). AreForms d all) (sym c.deref.ensures.value) are.all_forms
