-- How often cells are written.
use Rattle.std.specs.Prelude.{◌≡◌, ◌≤◌, ℕ, List, length, fold}
use Rattle.lisa_engine.specs.Touches.{set_cell}

-- a value for the cell at an index of an array
pub record Write : Type 0 where
  pub array : ℕ
  pub index : ℕ
  pub bits : ℕ

abbrev pub write_cell : List (List ℕ) → Write → List (List ℕ)
write_cell cells w = set_cell cells w.array w.index w.bits

-- cells after so many writes at most, one after the other
pub record FewWrites (most : ℕ) (before after : List (List ℕ)) : Type 0 where
  pub writes : List Write
  pub few : length writes ≤ most
  pub are : after ≡ fold write_cell before writes
