use Rattle.std.proofs.Common.{◌≡◌, drop}
use Rattle.std.specs.Option.{is_some}
use Rattle.std.specs.List.{list_any}
use Rattle.lisa_tree.specs.Operations.{own_stage}
use Rattle.description_types.proofs.uses.any_staged.Given as goal

abbrev pub invariant-loop-operation : goal.invariant-loop-operation
invariant-loop-operation g l = list_any (λ o. is_some (own_stage (g.N.Names.tree l.names) o)) l.operations ≡ list_any (λ o. is_some (own_stage (g.N.Names.tree l.names) o)) (drop l.operation-index l.operations)
