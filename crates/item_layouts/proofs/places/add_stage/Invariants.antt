use Rattle.std.proofs.Common.{◌≡◌, ◌++◌, filter, map}
use Rattle.item_layouts.specs.declared.place.ItemPlace.TheVariants.{Bit}
use Rattle.item_layouts.specs.Layouts.{stage_places}
use Rattle.item_layouts.proofs.Ranges.{range}
use Rattle.item_layouts.proofs.places.add_stage.Given as goal

abbrev pub invariant-loop-occurrence : goal.invariant-loop-occurrence
invariant-loop-occurrence g l =
    l.places.items ++ map (Bit l.stage) (filter ((g.A.Arrangement.layout l.arrangement).stands l.stage) (range l.occurrence (g.A.Arrangement.layout l.arrangement).occurrences))
    ≡ l.fn.places.items ++ stage_places (g.A.Arrangement.layout l.arrangement) l.stage
