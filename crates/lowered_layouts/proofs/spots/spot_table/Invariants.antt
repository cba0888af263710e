-- The spots of the first places are noted.
use Rattle.std.proofs.Common.{◌≡◌, take}
use Rattle.std.specs.Prelude.{position}
use Rattle.indexmap.specs.IndexMap.{get}
use Rattle.item_layouts.specs.Layouts.{same_place}
use Rattle.lowered_layouts.specs.declared.spots.Spot.{Spot}
use Rattle.lowered_layouts.specs.contracts.spots.SpotPartialEq.TheImpl as impl
use Rattle.lowered_layouts.specs.Spots.{place_at}
use Rattle.lowered_layouts.proofs.spots.spot_table.Given as goal

abbrev pub invariant-loop-item : goal.invariant-loop-item
invariant-loop-item l = (s : Spot) → get impl.eq-value.it l.table s ≡ position (same_place (place_at s)) (take l.item l.places)
