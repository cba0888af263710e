use Rattle.std.proofs.Common.{◌≡◌, ℕ, false, take}
use Rattle.std.specs.List.{list_any}
use Rattle.least_fixed_points.specs.Settles.{entry}
use Rattle.meant_declarations.specs.Walks.{are_other}
use Rattle.meant_declarations.proofs.differing.is_mixed.Given as goal

abbrev pub invariant-loop-node : goal.invariant-loop-node
invariant-loop-node g l = list_any (λ (k : ℕ). are_other g.T.PartialEq.eq l.own (entry l.values k)) (take l.node-index l.nodes) ≡ false
