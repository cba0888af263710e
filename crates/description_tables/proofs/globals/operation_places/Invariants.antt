use Rattle.std.proofs.Common.{◌≡◌, ℕ, List, take}
use Rattle.std.specs.Prelude.{position}
use Rattle.name_tables.specs.TableViews.{value_of}
use Rattle.lisa_tree.specs.declared.descriptions.Operation.{Operation}
use Rattle.lisa_tree.specs.Same.{same_name}
use Rattle.description_tables.proofs.globals.operation_places.Given as goal

abbrev pub invariant-loop-place : goal.invariant-loop-place
invariant-loop-place l = (n : List ℕ) → value_of l.table n ≡ position (λ (o : Operation). same_name n o.name) (take l.place l.operations)
