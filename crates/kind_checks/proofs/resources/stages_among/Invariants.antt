use Rattle.std.proofs.Common.{◌≡◌, drop, map}
use Rattle.lisa_tree.specs.Descriptions.{resource_tree}
use Rattle.lisa_tree.specs.Resources.{stages_in}
use Rattle.kind_checks.proofs.resources.stages_among.Given as goal

abbrev pub invariant-loop-resource : goal.invariant-loop-resource
invariant-loop-resource l = stages_in (map resource_tree l.resources) ≡ stages_in (map resource_tree (drop l.resource-index l.resources))
