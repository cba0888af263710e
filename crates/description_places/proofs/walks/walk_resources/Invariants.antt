-- What is left has the first fault of all.
use Rattle.std.proofs.Common.{◌≡◌, drop, map}
use Rattle.lisa_tree.specs.Descriptions.{resource_tree}
use Rattle.description_places.specs.Places.{first, resources_places}
use Rattle.description_places.proofs.walks.walk_resources.Given as goal

abbrev pub invariant-loop-number : goal.invariant-loop-number
invariant-loop-number g l =
    first (g.C.Condition.breaks l.condition) (resources_places 0 (map resource_tree l.resources)) ≡ first (g.C.Condition.breaks l.condition) (resources_places l.number (map resource_tree (drop l.number l.resources)))
