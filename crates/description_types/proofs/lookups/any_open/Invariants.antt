use Rattle.std.proofs.Common.{◌≡◌, drop}
use Rattle.least_fixed_points.specs.Settles.{entry}
use Rattle.description_types.specs.Facts.{any_open}
use Rattle.description_types.proofs.lookups.any_open.Given as goal

abbrev pub invariant-loop-operation : goal.invariant-loop-operation
invariant-loop-operation g l = any_open (entry l.table) l.operations ≡ any_open (entry l.table) (drop l.operation-index l.operations)
