use Rattle.std.proofs.Common.{◌≡◌, ◌++◌, drop}
use Rattle.lisa_tree.specs.Activations.{act_trees}
use Rattle.lisa_meaning.specs.Cores.{items_conditions}
use Rattle.scene_paths.specs.Conditions.{expressions_of}
use Rattle.scene_paths.proofs.conditions.+conditions.Given as goal

abbrev pub invariant-add_all_conditions-loop-act : goal.invariant-add_all_conditions-loop-act
invariant-add_all_conditions-loop-act l =
    expressions_of l.row.items ++ items_conditions (act_trees (drop l.act-index l.acts)) ≡ expressions_of l.fn.row.items ++ items_conditions (act_trees l.acts)
