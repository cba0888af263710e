use Rattle.lowered_values.proofs.Computing.{less_value}
use Rattle.lowered_values.proofs.laws.words_compare.Goals as goal

pub returns : goal.returns
returns c p before pins now kind w x y some at_x at_y low_x low_y = less_value p before pins now kind w x y some at_x at_y low_x low_y
