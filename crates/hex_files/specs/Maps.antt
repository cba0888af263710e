-- Finite maps from places to values, as writes one behind the other. Of several writes to one place the last counts.
use Rattle.std.specs.Prelude.{◌≡◌, ℕ, ◌+◌, ◌-◌, ◌<◌, max, IsSome, slice_index, List, [], ◌∷◌, ◌++◌, length, map, replicate, Option, Some, None, unwrap_or, nat_lt, ◌==◌, if◌then◌else◌}
use Rattle.std.specs.List.{range_with_len, slice_set}

-- a value at a place
abbrev pub Write : Type 0
Write = ℕ × ℕ

-- the first of two that is there
abbrev pub or_else : {A : Type 0} → Option A → Option A → Option A
or_else None other = other
or_else (Some value) other = Some value

-- what the map has at a place: later writes over earlier ones
unfoldable pub held_at : List Write → ℕ → Option ℕ
held_at [] place = None
held_at (w ∷ ws) place = or_else (held_at ws place) (if w.0 == place then Some w.1 else None)

-- how many places there are up to the last one that is written
unfoldable pub reach : List Write → ℕ
reach [] = 0
reach (w ∷ ws) = max (w.0 + 1) (reach ws)

-- the values up to the last place that is written, with 0 where none is
unfoldable pub values_of : List Write → List ℕ
values_of ws = map (λ place. unwrap_or (held_at ws place) 0) (range_with_len 0 (reach ws))

-- these values, one behind the other from a place on
unfoldable pub laid : ℕ → List ℕ → List Write
laid place [] = []
laid place (value ∷ values) = (place, value) ∷ laid (place + 1) values

-- a list after a write, with 0 in the places that it lacks before that one
abbrev pub stored : List ℕ → Write → List ℕ
stored values w = if nat_lt w.0 (length values) then slice_set values w.0 w.1 else values ++ (replicate (w.0 - length values) 0 ++ w.1 ∷ [])

-- values that are what the map of the writes has, 0 where it has none, up to its last place
pub record HoldsMap (ws : List Write) (values : List ℕ) : Type 0 where
  pub each : (place : ℕ) → place < length values → slice_index values place ≡ unwrap_or (held_at ws place) 0
  pub all : (place : ℕ) → IsSome (held_at ws place) → place < length values
  pub last : 0 < length values → IsSome (held_at ws (length values - 1))
