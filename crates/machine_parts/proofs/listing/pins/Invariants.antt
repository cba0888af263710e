-- What is listed so far, and what the resources that are left give.
use Rattle.std.proofs.Common.{◌≡◌, ◌++◌, drop, map}
use Rattle.std.specs.Prelude.{filter_map}
use Rattle.lisa_tree.specs.Descriptions.{resource_tree}
use Rattle.machine_parts.specs.Parts.{pin_in}
use Rattle.machine_parts.proofs.listing.pins.Given as goal

abbrev pub invariant-loop-resource : goal.invariant-loop-resource
invariant-loop-resource l = l.pins.items ++ filter_map pin_in (map resource_tree (drop l.resource-index l.resource-items)) ≡ filter_map pin_in (map resource_tree l.resource-items)
