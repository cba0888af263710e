use Rattle.std.proofs.Common.{◌≡◌, drop, map}
use Rattle.lisa_tree.specs.Descriptions.{resource_tree}
use Rattle.lisa_tree.specs.Resources.{stages_in}
use Rattle.activation_trees.proofs.listing.stages.Given as goal

abbrev pub invariant-loop-resource : goal.invariant-loop-resource
invariant-loop-resource g l = stages_in (map resource_tree (drop l.resource-index l.resources)) ≡ stages_in (map resource_tree l.resources)
