use Rattle.instruction_texts.proofs.Relabelled.{one_tree}
use Rattle.instruction_texts.proofs.laws.trees_of_a_text_are_one.Goals as goal

pub returns : goal.returns
returns c table syntax k t f g p = one_tree table syntax k t f g p.clean p.covered
