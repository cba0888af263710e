-- The root is among the occurrences that are left.
use Rattle.std.proofs.Common.{◌≡◌, drop}
use Rattle.std.specs.Prelude.{find}
use Rattle.lisa_tree.specs.Operations.{is_root}
use Rattle.activation_plans.proofs.plans.root_occurrence.Given as goal

abbrev pub invariant-loop-occurrence : goal.invariant-loop-occurrence
invariant-loop-occurrence g l = find (λ x. is_root (g.N.Names.tree l.names) x.operation) (drop l.occurrence-index l.occurrences) ≡ find (λ x. is_root (g.N.Names.tree l.names) x.operation) l.occurrences
