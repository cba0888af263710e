-- What is counted so far, and what the resources that are left have.
use Rattle.std.proofs.Common.{◌≡◌, ◌≤◌, ◌+◌, drop, length, map}
use Rattle.std.specs.Prelude.{filter_map}
use Rattle.lisa_tree.specs.Descriptions.{resource_tree}
use Rattle.machine_parts.specs.Parts.{array_in}
use Rattle.description_sizes.proofs.resources.count_arrays.Given as goal

abbrev pub invariant-loop-resource : goal.invariant-loop-resource
invariant-loop-resource l = record {
  few : l.count ≤ l.resource-index;
  sum : l.count + length (filter_map array_in (map resource_tree (drop l.resource-index l.resources))) ≡ length (filter_map array_in (map resource_tree l.resources));
}
