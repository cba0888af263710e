-- What is left has the first fault of all.
use Rattle.std.proofs.Common.{◌≡◌, ◌+◌, drop}
use Rattle.description_places.specs.Places.{first, names_places}
use Rattle.description_places.proofs.declarations.walk_names.Given as goal

abbrev pub invariant-loop-index : goal.invariant-loop-index
invariant-loop-index g l =
    first (g.C.Condition.breaks l.condition) (names_places l.operation l.number l.names) ≡ first (g.C.Condition.breaks l.condition) (names_places l.operation (l.number + l.index) (drop l.index l.names))
