-- What is left has the first fault of all.
use Rattle.std.proofs.Common.{◌≡◌, drop}
use Rattle.description_places.specs.Places.{first, parts_places}
use Rattle.description_places.proofs.sections.walk_syntax.Given as goal

abbrev pub invariant-loop-item : goal.invariant-loop-item
invariant-loop-item g l = first (g.C.Condition.breaks l.condition) (parts_places l.operation l.items) ≡ first (g.C.Condition.breaks l.condition) (parts_places l.operation (drop l.item-index l.items))
