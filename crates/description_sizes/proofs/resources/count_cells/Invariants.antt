-- What is counted so far, and what the resources that are left have.
use Rattle.std.proofs.Common.{◌≡◌, ◌+◌, ◌-◌, ◌^◌, ◌<◌, drop, map, min}
use Rattle.std.specs.Prelude.{sum_by}
use Rattle.lisa_tree.specs.Descriptions.{resource_tree}
use Rattle.description_sizes.specs.Cells.{depth_in}
use Rattle.description_sizes.proofs.resources.count_cells.Given as goal

abbrev pub invariant-loop-resource : goal.invariant-loop-resource
invariant-loop-resource l = record {
  fits : l.count < 2 ^ 64;
  sum : min (l.count + sum_by depth_in (map resource_tree (drop l.resource-index l.resources))) (2 ^ 64 - 1) ≡ min (sum_by depth_in (map resource_tree l.resources)) (2 ^ 64 - 1);
}
