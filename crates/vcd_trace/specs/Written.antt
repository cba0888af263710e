-- What a dump declares and says of values, and what is kept of it.
use Rattle.std.specs.Prelude.{ℕ, List, Option}
use Rattle.lisa_engine.specs.declared.parts.Item.{Item}

pub record Variable : Type 0 where
  pub code : List ℕ
  pub name : List ℕ
  pub width : ℕ

-- the value that a code gets, or none where it is 2 ^ 64 or more, with the place of the first word
pub record Change : Type 0 where
  pub at : ℕ
  pub code : List ℕ
  pub value : Option ℕ

-- a time, and the items that have another value from it on, by their places, each with its value
pub record Changed : Type 0 where
  pub time : ℕ
  pub changes : List (ℕ × ℕ)

-- the items, and the times in their order
pub record Dump : Type 0 where
  pub items : List Item
  pub times : List Changed
