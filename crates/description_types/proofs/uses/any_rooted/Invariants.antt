use Rattle.std.proofs.Common.{◌≡◌, drop}
use Rattle.std.specs.List.{list_any}
use Rattle.lisa_tree.specs.Operations.{is_root}
use Rattle.description_types.proofs.uses.any_rooted.Given as goal

abbrev pub invariant-loop-operation : goal.invariant-loop-operation
invariant-loop-operation g l = list_any (is_root (g.N.Names.tree l.names)) l.operations ≡ list_any (is_root (g.N.Names.tree l.names)) (drop l.operation-index l.operations)
