-- The bits that there are, with those that are left to add.
use Rattle.std.proofs.Common.{◌≡◌, ◌++◌, map, drop}
use Rattle.form_patterns.specs.Instructions.{trees_fields}
use Rattle.form_patterns.proofs.Views.{trees}
use Rattle.lisa_assembler.specs.Fields.{field_bits}
use Rattle.lisa_assembler.proofs.fields.+add_form_fields.Given as goal

abbrev pub invariant-loop-child : goal.invariant-loop-child
invariant-loop-child l =
    l.all.items ++ map field_bits (trees_fields (trees (drop l.child-index l.child-items))) ≡ l.initial.all.items ++ map field_bits (trees_fields (trees l.child-items))
