-- What is left has the first fault of all.
use Rattle.std.proofs.Common.{◌≡◌, ◌+◌, drop}
use Rattle.description_places.specs.Places.{first, instances_places}
use Rattle.description_places.proofs.declarations.walk_instances.Given as goal

abbrev pub invariant-loop-index : goal.invariant-loop-index
invariant-loop-index g l =
    first (g.C.Condition.breaks l.condition) (instances_places l.operation l.number l.instances) ≡ first (g.C.Condition.breaks l.condition) (instances_places l.operation (l.number + l.index) (drop l.index l.instances))
