-- Places at which a condition isn't broken, and which places stand in a description.
use Rattle.std.specs.Prelude.{◌≡◌, ◌⊎◌, List, [], ◌∷◌, None}
use Rattle.lisa_tree.specs.declared.faults.DescFault.{DescFault}
use Rattle.lisa_tree.specs.Descriptions.{DescriptionTree}
use Rattle.description_places.specs.Places.{At, Condition, first, description_places}

-- a condition is broken at none of these places
abbrev pub AreFree : Condition DescFault → List At → Type 0
AreFree breaks all = first breaks all ≡ None

-- a condition is broken nowhere in a description
abbrev pub IsFree : Condition DescFault → DescriptionTree → Type 0
IsFree breaks d = AreFree breaks (description_places d)

-- a condition isn't broken at this place
abbrev pub IsFreeAt : Condition DescFault → At → Type 0
IsFreeAt breaks a = breaks a.operation a.region a.scope a.place ≡ None

-- this is one of the places
abbrev pub IsAmong : At → List At → Type 0
IsAmong a [] = ⊥
IsAmong a (b ∷ rest) = (a ≡ b) ⊎ IsAmong a rest

-- a place stands in a description
abbrev pub Stands : DescriptionTree → At → Type 0
Stands d a = IsAmong a (description_places d)

-- each of these places does
abbrev pub AllStand : DescriptionTree → List At → Type 0
AllStand d all = (a : At) → IsAmong a all → Stands d a
