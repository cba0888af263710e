use Rattle.lisa_tree.proofs.Views.{act_tree-ChooseElse}
use Rattle.lisa_activation_reader.proofs.items.chosen_or.Goals as goal

pub returns : goal.returns
returns c = act_tree-ChooseElse c.args.e c.args.chosen c.args.others
