use Rattle.std.proofs.Common.{◌≡◌, map, drop}
use Rattle.lisa_tree.specs.Descriptions.{resource_tree}
use Rattle.lisa_tree.specs.Resources.{stages_in}
use Rattle.description_commands.proofs.occupancy.pipeline_stages.Given as goal

abbrev pub invariant-loop-resource : goal.invariant-loop-resource
invariant-loop-resource l = stages_in (map resource_tree l.resources) ≡ stages_in (map resource_tree (drop l.resource-index l.resources))
