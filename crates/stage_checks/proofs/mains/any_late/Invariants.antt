use Rattle.std.proofs.Common.{◌≡◌, drop}
use Rattle.stage_checks.specs.Backward.{any_late}
use Rattle.stage_checks.proofs.mains.any_late.Given as goal

abbrev pub invariant-loop-operation : goal.invariant-loop-operation
invariant-loop-operation g l = any_late (g.N.Names.tree l.names) (drop l.operation-index l.operations) ≡ any_late (g.N.Names.tree l.names) l.operations
