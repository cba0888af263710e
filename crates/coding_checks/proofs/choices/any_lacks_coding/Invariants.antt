use Rattle.std.proofs.Common.{◌≡◌, drop}
use Rattle.std.specs.List.{list_any}
use Rattle.coding_checks.specs.Uneven.{lacks_coding}
use Rattle.coding_checks.proofs.choices.any_lacks_coding.Given as goal

abbrev pub invariant-loop-operation : goal.invariant-loop-operation
invariant-loop-operation g l = list_any (lacks_coding (g.N.Names.tree l.names)) l.operations ≡ list_any (lacks_coding (g.N.Names.tree l.names)) (drop l.operation-index l.operations)
