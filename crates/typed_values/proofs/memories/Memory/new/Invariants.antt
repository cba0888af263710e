-- The values so far, and those of the resources that are left.
use Rattle.std.proofs.Common.{◌≡◌, ◌++◌, map, drop}
use Rattle.lisa_tree.specs.Descriptions.{resource_tree}
use Rattle.typed_values.specs.Words.{typed_word}
use Rattle.typed_values.specs.ResetEffects.{first_value}
use Rattle.typed_values.proofs.memories.Memory.new.Given as goal

abbrev pub invariant-loop-resource : goal.invariant-loop-resource
invariant-loop-resource g l = map typed_word l.registers.items ++ map first_value (map resource_tree (drop l.resource-index l.resource-items)) ≡ map first_value (map resource_tree l.resource-items)
