-- The first memory is among the resources that are left.
use Rattle.std.proofs.Common.{◌≡◌, drop, map}
use Rattle.lisa_tree.specs.Descriptions.{resource_tree}
use Rattle.generated_programs.specs.Memories.{first_memory}
use Rattle.generated_programs.proofs.memories.first_memory.Given as goal

abbrev pub invariant-loop-resource : goal.invariant-loop-resource
invariant-loop-resource l = first_memory l.width (map resource_tree (drop l.resource-index l.resources)) ≡ first_memory l.width (map resource_tree l.resources)
