use Rattle.std.proofs.Common.{◌∙◌}
use Rattle.lisa_forms.proofs.forms.Forms.items.Goals as goal

pub returns-clause-of_description : goal.returns-clause-of_description
returns-clause-of_description c d are = c.deref.ensures.value ∙ are.all_items
