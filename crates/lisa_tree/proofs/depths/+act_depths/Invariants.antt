-- The depth so far and that of the items that are left make that of all.
use Rattle.std.proofs.Common.{◌≡◌, ◌-◌, ◌^◌, max, min, drop}
use Rattle.lisa_tree.specs.Activations.{act_trees, acts_depth}
use Rattle.lisa_tree.proofs.depths.+act_depths.Given as goal

abbrev pub invariant-acts_depth-loop-a : goal.invariant-acts_depth-loop-a
invariant-acts_depth-loop-a l =
    max l.deepest (min (acts_depth (act_trees (drop l.a-index l.all))) (2 ^ 32 - 1)) ≡ min (acts_depth (act_trees l.all)) (2 ^ 32 - 1)
