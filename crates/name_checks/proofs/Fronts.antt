-- The front of a list, and what it is mapped to.
use Rattle.std.proofs.Common.{◌≡◌, ℕ, List, map, take, sym}
use Rattle.std.proofs.lemmas.List.{take-map}

pub front_of_map : {X Y : Type 0} (f : X → Y) (k : ℕ) (xs : List X) → map f (take k xs) ≡ take k (map f xs)
front_of_map f k xs = sym (take-map f k xs)
