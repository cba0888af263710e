-- The first pipeline is among the resources that are left.
use Rattle.std.proofs.Common.{◌≡◌, drop, map}
use Rattle.lisa_tree.specs.Descriptions.{resource_tree}
use Rattle.lisa_tree.specs.Resources.{stages_in}
use Rattle.lowered_layouts.proofs.counting.count_stages.Given as goal

abbrev pub invariant-loop-resource : goal.invariant-loop-resource
invariant-loop-resource l = stages_in (map resource_tree (drop l.resource-index l.resources)) ≡ stages_in (map resource_tree l.resources)
