use Rattle.activation_trees.proofs.Levels.{no_more}
use Rattle.activation_trees.proofs.Ranked.{falling}
use Rattle.activation_trees.proofs.laws.further_levels_unfold_nothing.Goals as goal

pub returns : goal.returns
returns c = λ d none levels next x h. no_more d (falling d none) levels x next h
