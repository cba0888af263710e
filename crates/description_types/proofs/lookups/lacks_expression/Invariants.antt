use Rattle.std.proofs.Common.{◌≡◌, drop}
use Rattle.description_types.specs.Kinds.{lacks_expression}
use Rattle.description_types.proofs.lookups.lacks_expression.Given as goal

abbrev pub invariant-loop-operation : goal.invariant-loop-operation
invariant-loop-operation g l = lacks_expression (g.N.Names.tree l.names) l.operations ≡ lacks_expression (g.N.Names.tree l.names) (drop l.operation-index l.operations)
