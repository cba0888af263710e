use Rattle.std.proofs.Common.{◌≡◌, map, drop}
use Rattle.lisa_tree.specs.Descriptions.{resource_tree}
use Rattle.lisa_tree.specs.Resources.{fields_in}
use Rattle.scene_paths.proofs.fields.boundary_fields.Given as goal

abbrev pub invariant-loop-resource : goal.invariant-loop-resource
invariant-loop-resource l = fields_in (map resource_tree l.resources) ≡ fields_in (map resource_tree (drop l.resource-index l.resources))
