use Rattle.std.proofs.Common.{◌≡◌, ◌++◌, drop}
use Rattle.lisa_tree.specs.Activations.{act_trees}
use Rattle.stage_checks.specs.Running.{acts_names}
use Rattle.stage_checks.specs.Graphs.{names_in}
use Rattle.activation_trees.proofs.starts.+add_names.Given as goal

abbrev pub invariant-add_all_names-loop-act : goal.invariant-add_all_names-loop-act
invariant-add_all_names-loop-act l =
    names_in l.row.items ++ acts_names (act_trees (drop l.act-index l.acts)) ≡ names_in l.fn.row.items ++ acts_names (act_trees l.acts)
