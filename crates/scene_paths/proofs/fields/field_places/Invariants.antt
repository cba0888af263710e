use Rattle.std.proofs.Common.{◌≡◌, ℕ, List, take}
use Rattle.std.specs.Prelude.{position}
use Rattle.noted_names.specs.Places.{place_of}
use Rattle.lisa_tree.specs.declared.tokens.Shape.{Shape}
use Rattle.lisa_tree.specs.Same.{same_name}
use Rattle.scene_paths.proofs.fields.field_places.Given as goal

abbrev pub invariant-loop-place : goal.invariant-loop-place
invariant-loop-place l = (n : List ℕ) → place_of l.table.memo n ≡ position (λ (f : Shape × List ℕ). same_name n f.1) (take l.place l.fields)
