-- The acts of a block are those of its vector.
use Rattle.std.proofs.Common.{◌≡◌, List, refl, sym, ap, ◌∙◌}
use Rattle.std.specs.Global.{Vec}
use mathlib.Core.Former.{Count}
use Rattle.behavior_plans.specs.declared.acts.Act.{Act, Block', Row_of-Act, end_of-Act, more_of-Act, items-the_row-Act, items_hidden-the_row-Act-0}
use Rattle.behavior_plans.specs.declared.acts.Act.TheVariants as acts
use Rattle.behavior_plans.specs.Acts as trees
use Rattle.behavior_plans.specs.Acts.{ActTree, ActTrees, act_tree, act_trees, row_trees}

abbrev block_row : Act → (n : Count) × Row_of-Act n
block_row (Block' _ row) = (_, row)
block_row _ = (_, end_of-Act)

act_row : (n : Count) (row : Row_of-Act n) → row_trees row ≡ act_trees (items-the_row-Act n row)
act_row n end_of-Act = refl
act_row n (more_of-Act a rest) = ap (trees.Then (act_tree a)) (act_row _ rest)

pub act_tree-Block : (v : Vec Act) → act_tree (acts.Block v) ≡ trees.Block (act_trees v.items)
act_tree-Block v =
    let row = block_row (acts.Block v) in
    ap trees.Block (act_row row.0 row.1 ∙ ap act_trees (items_hidden-the_row-Act-0 v))

-- for anything that is made of the tree
pub of_block : {T : Type 0} (f : ActTree → T) (a : Act) (v : Vec Act) (xs : List Act) → a ≡ acts.Block v → xs ≡ v.items → f (act_tree a) ≡ f (trees.Block (act_trees xs))
of_block f a v xs h k =
    ap (λ (a : Act). f (act_tree a)) h ∙ ap f (act_tree-Block v) ∙ sym (ap (λ (xs : List Act). f (trees.Block (act_trees xs))) k)
