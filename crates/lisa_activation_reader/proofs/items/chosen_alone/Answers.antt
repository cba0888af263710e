use Rattle.lisa_tree.proofs.Views.{act_tree-Choose}
use Rattle.lisa_activation_reader.proofs.items.chosen_alone.Goals as goal

pub returns : goal.returns
returns c = act_tree-Choose c.args.e c.args.chosen
