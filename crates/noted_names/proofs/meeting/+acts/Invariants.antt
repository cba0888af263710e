use Rattle.std.proofs.Common.{◌≡◌, ◌++◌, drop}
use Rattle.lisa_tree.specs.Activations.{act_trees}
use Rattle.noted_names.specs.Standing.{names_of, in_acts}
use Rattle.noted_names.proofs.meeting.+acts.Given as goal

abbrev pub invariant-add_acts-each : goal.invariant-add_acts-each
invariant-add_acts-each l = names_of l.met.items ++ in_acts (act_trees (drop l.act-index l.acts)) ≡ names_of l.fn.met.items ++ in_acts (act_trees l.acts)
