use Rattle.std.proofs.Common.{◌≡◌, ℕ, List, take}
use Rattle.std.specs.Prelude.{position}
use Rattle.name_tables.specs.TableViews.{value_of}
use Rattle.lisa_tree.specs.Descriptions.{resource_tree}
use Rattle.lisa_tree.specs.Resources.{is_named}
use Rattle.description_tables.proofs.globals.resource_places.Given as goal

abbrev pub invariant-loop-place : goal.invariant-loop-place
invariant-loop-place l = (n : List ℕ) → value_of l.table n ≡ position (λ r. is_named n (resource_tree r)) (take l.place l.resources)
