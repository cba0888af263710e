-- What is left has the same stages.
use Rattle.std.proofs.Common.{◌≡◌, drop, map}
use Rattle.lisa_tree.specs.Descriptions.{resource_tree}
use Rattle.lisa_tree.specs.Resources.{stages_in}
use Rattle.moment_stores.proofs.making.count_stages.Given as goal

abbrev pub invariant-loop-resource : goal.invariant-loop-resource
invariant-loop-resource l = stages_in (map resource_tree (drop l.resource-index l.resources)) ≡ stages_in (map resource_tree l.resources)
