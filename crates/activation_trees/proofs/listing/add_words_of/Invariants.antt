use Rattle.std.proofs.Common.{◌≡◌, ◌++◌, drop, map}
use Rattle.activation_trees.specs.Items.{word_item}
use Rattle.activation_trees.proofs.listing.add_words_of.Given as goal

abbrev pub invariant-loop-stage : goal.invariant-loop-stage
invariant-loop-stage l = l.items.items ++ map (word_item l.width) (drop l.stage-index l.stages) ≡ l.fn.items.items ++ map (word_item l.width) l.stages
