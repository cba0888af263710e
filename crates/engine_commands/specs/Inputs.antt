-- The input of a command that takes it whole.
use Rattle.std.specs.Prelude.{ℕ, ◌+◌, ◌≤◌, List, Option, length}
use Rattle.std.specs.Io.KnownBytes.{Consumes}

-- no more bytes were taken of the input than one behind the limit
pub record TakesWithin (limit : ℕ) (left rest : Option (List ℕ)) : Type 0 where
  pub taken : List ℕ
  pub consumed : Consumes left rest taken
  pub within : length taken ≤ limit + 1
