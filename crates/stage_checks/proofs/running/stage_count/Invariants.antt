use Rattle.std.proofs.Common.{◌≡◌, map, drop}
use Rattle.lisa_tree.specs.Descriptions.{resource_tree}
use Rattle.lisa_tree.specs.Resources.{stages_in, stages}
use Rattle.stage_checks.proofs.running.stage_count.Given as goal

abbrev pub invariant-loop-resource : goal.invariant-loop-resource
invariant-loop-resource g l = stages_in (map resource_tree (drop l.resource-index l.resource-items)) ≡ stages (g.N.Names.tree l.names)
