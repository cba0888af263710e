-- What is left has the same fields.
use Rattle.std.proofs.Common.{◌≡◌, drop, map}
use Rattle.lisa_tree.specs.Descriptions.{resource_tree}
use Rattle.lisa_tree.specs.Resources.{fields_in}
use Rattle.moment_stores.proofs.making.count_fields.Given as goal

abbrev pub invariant-loop-resource : goal.invariant-loop-resource
invariant-loop-resource l = fields_in (map resource_tree (drop l.resource-index l.resources)) ≡ fields_in (map resource_tree l.resources)
