use Rattle.std.proofs.Common.{◌≡◌, ◌++◌, drop, map}
use Rattle.std.specs.Prelude.{flat_map}
use Rattle.lisa_tree.specs.Descriptions.{declare_tree}
use Rattle.noted_names.specs.Standing.{names_of, declared_by}
use Rattle.noted_names.proofs.meeting.add_declares.Given as goal

abbrev pub invariant-each : goal.invariant-each
invariant-each l = names_of l.met.items ++ flat_map declared_by (map declare_tree (drop l.declare-index l.all)) ≡ names_of l.fn.met.items ++ flat_map declared_by (map declare_tree l.all)
