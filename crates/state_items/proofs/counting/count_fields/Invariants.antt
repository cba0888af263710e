-- The first list of fields is among the resources that are left.
use Rattle.std.proofs.Common.{◌≡◌, drop, map}
use Rattle.lisa_tree.specs.Descriptions.{resource_tree}
use Rattle.lisa_tree.specs.Resources.{fields_in}
use Rattle.state_items.proofs.counting.count_fields.Given as goal

abbrev pub invariant-loop-resource : goal.invariant-loop-resource
invariant-loop-resource l = fields_in (map resource_tree (drop l.resource-index l.resources)) ≡ fields_in (map resource_tree l.resources)
