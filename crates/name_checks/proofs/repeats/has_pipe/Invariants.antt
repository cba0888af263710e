use Rattle.std.proofs.Common.{◌≡◌, drop, map}
use Rattle.std.specs.List.{list_any}
use Rattle.lisa_tree.specs.Descriptions.{resource_tree}
use Rattle.lisa_tree.specs.Resources.{is_pipe}
use Rattle.name_checks.proofs.repeats.has_pipe.Given as goal

abbrev pub invariant-loop-resource : goal.invariant-loop-resource
invariant-loop-resource l = list_any is_pipe (map resource_tree l.resources) ≡ list_any is_pipe (map resource_tree (drop l.resource-index l.resources))
