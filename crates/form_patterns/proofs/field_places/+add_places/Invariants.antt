-- The places that there are, with those that are left to add.
use Rattle.std.proofs.Common.{◌≡◌, ◌++◌, map, drop}
use Rattle.pattern_tables.specs.Places.{pair_of}
use Rattle.form_patterns.specs.Instructions.{trees_fields}
use Rattle.form_patterns.proofs.Placing.{place_of}
use Rattle.form_patterns.proofs.Views.{trees}
use Rattle.form_patterns.proofs.field_places.+add_places.Given as goal

abbrev pub invariant-loop-child : goal.invariant-loop-child
invariant-loop-child l =
    map pair_of l.all.items ++ map place_of (trees_fields (trees (drop l.child-index l.child-items))) ≡ map pair_of l.initial.all.items ++ map place_of (trees_fields (trees l.child-items))
