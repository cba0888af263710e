use Rattle.std.proofs.Common.{◌≡◌, ◌≤◌, ◌++◌, map, drop}
use Rattle.lisa_tree.specs.Descriptions.{resource_tree}
use Rattle.scene_paths.specs.Places.{before, befores}
use Rattle.scene_paths.proofs.before.places.Given as goal

abbrev pub invariant-each : goal.invariant-each
invariant-each l =
    (l.all.items ++ befores l.before (map resource_tree (drop l.resource-index l.resources)) ≡ befores (before 0 0 0) (map resource_tree l.resources))
    × (l.before.registers ≤ l.resource-index)
    × (l.before.arrays ≤ l.resource-index)
    × (l.before.pins ≤ l.resource-index)
