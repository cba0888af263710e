use Rattle.std.proofs.Common.{◌≡◌, ◌++◌, map}
use Rattle.item_layouts.specs.declared.place.ItemPlace.TheVariants.{Field}
use Rattle.item_layouts.specs.Layouts.{boundary_places}
use Rattle.item_layouts.proofs.Ranges.{range}
use Rattle.item_layouts.proofs.places.add_boundary.Given as goal

abbrev pub invariant-loop-field : goal.invariant-loop-field
invariant-loop-field g l =
    l.places.items ++ map (Field l.boundary) (range l.field (g.A.Arrangement.layout l.arrangement).fields)
    ≡ l.fn.places.items ++ boundary_places (g.A.Arrangement.layout l.arrangement) l.boundary
