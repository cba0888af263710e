-- A memory of an image: the array that it is for, and its first cells.
use Rattle.std.specs.Prelude.{ℕ, List}

pub record Memory : Type 0 where
  pub name : List ℕ
  pub width : ℕ
  pub depth : ℕ
  pub cells : List ℕ
