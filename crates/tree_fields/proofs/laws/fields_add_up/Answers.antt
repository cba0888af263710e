use Rattle.tree_fields.proofs.Emptied.{adds_up}
use Rattle.tree_fields.proofs.laws.fields_add_up.Goals as goal

pub returns : goal.returns
returns c = adds_up
