use Rattle.std.proofs.Common.{◌≡◌, ◌-◌, ◌++◌}
use Rattle.std.specs.List.{flat_map}
use Rattle.item_layouts.specs.Layouts.{boundary_places, field_places}
use Rattle.item_layouts.proofs.Ranges.{range}
use Rattle.item_layouts.proofs.places.add_fields.Given as goal

abbrev pub invariant-loop-boundary : goal.invariant-loop-boundary
invariant-loop-boundary g l =
    l.places.items ++ flat_map (boundary_places (g.A.Arrangement.layout l.arrangement)) (range l.boundary ((g.A.Arrangement.layout l.arrangement).stages - 1))
    ≡ l.fn.places.items ++ field_places (g.A.Arrangement.layout l.arrangement)
