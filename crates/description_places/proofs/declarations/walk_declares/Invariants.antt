-- What is left has the first fault of all.
use Rattle.std.proofs.Common.{◌≡◌, drop, map}
use Rattle.lisa_tree.specs.Descriptions.{declare_tree}
use Rattle.description_places.specs.Places.{first, declares_places}
use Rattle.description_places.proofs.declarations.walk_declares.Given as goal

abbrev pub invariant-loop-declare : goal.invariant-loop-declare
invariant-loop-declare g l =
    first (g.C.Condition.breaks l.condition) (declares_places l.operation 0 (map declare_tree l.declares)) ≡ first (g.C.Condition.breaks l.condition) (declares_places l.operation l.first (map declare_tree (drop l.declare-index l.declares)))
