-- What is seen of a body, and what an edge leaves as it was.
use Rattle.std.specs.Prelude.{ℕ, List}
use Rattle.lisa_tree.specs.declared.descriptions.Description.{Description}
use Rattle.lisa_engine.specs.Memory.{Memory}
use Rattle.lisa_engine.specs.Touches.{put_back}
use Rattle.lisa_engine.specs.declared.parts.Touch.{Touch}
use Rattle.activation_plans.specs.lisa_meaning.Moments.{Contents, Moment}

-- the description, the image that its machine began with, the moment of an edge, and the cells that the edge wrote
pub record Seen : Type 0 where
  pub described : Description
  pub image : List Memory
  pub moment : Moment
  pub touches : List Touch

abbrev pub lasting_of : Seen → Contents
lasting_of b = b.moment.memory

-- whose machine it is, and its cells as the edge began
pub record Kept : Type 0 where
  pub described : Description
  pub image : List Memory
  pub before : List (List ℕ)

abbrev pub kept_of : Seen → Kept
kept_of b = record { described = b.described; image = b.image; before = put_back b.touches b.moment.memory.cells }

-- the same as an edge begins
abbrev pub begun_of : Seen → Kept
begun_of b = record { described = b.described; image = b.image; before = b.moment.memory.cells }
