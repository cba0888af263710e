-- What places behind the registers are of.
use Rattle.std.proofs.Common.{◌≡◌, ◌<◌, ◌+◌, ◌∙◌, ℕ, List, Option, None, Some, cond, false, length, get_or, take, refl, ap}
use Rattle.std.specs.Prelude.{position}
use Rattle.std.specs.Option.{option_or}
use Rattle.description_tables.proofs.Positions.{next_place}
use Rattle.item_layouts.specs.declared.place.ItemPlace.{ItemPlace}
use Rattle.item_layouts.specs.declared.place.ItemPlace.TheVariants as places
use Rattle.item_layouts.specs.Layouts.{same_place}
use Rattle.lowered_layouts.specs.declared.spots.Spot.{Spot}
use Rattle.lowered_layouts.specs.declared.spots.Spot.TheVariants as spots
use Rattle.lowered_layouts.specs.contracts.spots.SpotPartialEq.TheImpl as impl
use Rattle.lowered_layouts.specs.Spots.{place_at}

pub no_spot : (s : Spot) (register : ℕ) → same_place (place_at s) (places.Register register) ≡ false
no_spot (spots.Field boundary field) register = refl
no_spot (spots.Word stage) register = refl
no_spot (spots.Bit stage occurrence) register = refl

pub field_spot : (s : Spot) (boundary field : ℕ) → same_place (place_at s) (places.Field boundary field) ≡ impl.eq-value.it s (spots.Field boundary field)
field_spot (spots.Field b f) boundary field = refl
field_spot (spots.Word t) boundary field = refl
field_spot (spots.Bit t k) boundary field = refl

pub word_spot : (s : Spot) (stage : ℕ) → same_place (place_at s) (places.Word stage) ≡ impl.eq-value.it s (spots.Word stage)
word_spot (spots.Field b f) stage = refl
word_spot (spots.Word t) stage = refl
word_spot (spots.Bit t k) stage = refl

pub bit_spot : (s : Spot) (stage occurrence : ℕ) → same_place (place_at s) (places.Bit stage occurrence) ≡ impl.eq-value.it s (spots.Bit stage occurrence)
bit_spot (spots.Field b f) stage occurrence = refl
bit_spot (spots.Word t) stage occurrence = refl
bit_spot (spots.Bit t k) stage occurrence = refl

-- one more place is noted
pub noted_on : (s : Spot) (all : List ItemPlace) (i item : ℕ) (place : ItemPlace) (old new : Option ℕ) → i < length all → place ≡ get_or all i place → item ≡ i
    → old ≡ position (same_place (place_at s)) (take i all) → new ≡ option_or old (cond (same_place (place_at s) place) (Some item) None)
    → new ≡ position (same_place (place_at s)) (take (i + 1) all)
noted_on s all i item place old new low is same was now =
    next_place (same_place (place_at s)) all i place old new low is was
    (now ∙ ap (λ (n : ℕ). option_or old (cond (same_place (place_at s) place) (Some n) None)) same)
