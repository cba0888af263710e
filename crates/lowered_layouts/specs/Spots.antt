-- What items behind the registers are of, in code. On the way to the program: nothing here needs to be trusted.
use Rattle.item_layouts.specs.declared.place.ItemPlace.{ItemPlace}
use Rattle.item_layouts.specs.declared.place.ItemPlace.TheVariants as places
use Rattle.lowered_layouts.specs.declared.spots.Spot.{Spot}
use Rattle.lowered_layouts.specs.declared.spots.Spot.TheVariants as spots

abbrev pub place_at : Spot → ItemPlace
place_at (spots.Field boundary field) = places.Field boundary field
place_at (spots.Word stage) = places.Word stage
place_at (spots.Bit stage occurrence) = places.Bit stage occurrence
