use Rattle.std.proofs.Common.{◌≡◌, ◌++◌}
use Rattle.std.specs.List.{flat_map}
use Rattle.item_layouts.specs.Layouts.{stage_places, bit_places}
use Rattle.item_layouts.proofs.Ranges.{range}
use Rattle.item_layouts.proofs.places.add_bits.Given as goal

abbrev pub invariant-loop-stage : goal.invariant-loop-stage
invariant-loop-stage g l =
    l.places.items ++ flat_map (stage_places (g.A.Arrangement.layout l.arrangement)) (range l.stage (g.A.Arrangement.layout l.arrangement).stages)
    ≡ l.fn.places.items ++ bit_places (g.A.Arrangement.layout l.arrangement)
