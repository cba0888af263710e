use Rattle.std.proofs.Common.{◌≡◌, ℕ, List, take}
use Rattle.std.specs.Prelude.{position}
use Rattle.name_tables.specs.TableViews.{value_of}
use Rattle.lisa_tree.specs.Same.{same_name}
use Rattle.description_tables.proofs.globals.stage_places.Given as goal

abbrev pub invariant-loop-place : goal.invariant-loop-place
invariant-loop-place l = (n : List ℕ) → value_of l.table n ≡ position (same_name n) (take l.place l.stages)
