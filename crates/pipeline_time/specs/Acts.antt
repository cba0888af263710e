-- The tree of activations: which occurrences activate which, by numbers.
use Rattle.std.specs.Prelude.{ℕ, suc, ◌+◌, Bool, List, [], ◌∷◌, ◌++◌}

-- The items of an ACTIVATION, each with what is below it and what follows it. A level is 0 for no stage, and one more than the number of a
-- stage otherwise.
pub data Acts : Type 0 where
  Done : Acts
  -- an occurrence: its number in preorder, the level in which it runs, and whether it is past the root
  Act : (number level : ℕ) (past : Bool) (own rest : Acts) → Acts
  -- an `if` of an occurrence, by its place among that one's in preorder
  When : (number test : ℕ) (taken other rest : Acts) → Acts

-- an occurrence, the level of its activator, and its items
pub record Node : Type 0 where
  pub number : ℕ
  pub above : ℕ
  pub level : ℕ
  pub past : Bool
  pub own : Acts

-- the occurrences among the items of an activator of a level, in preorder
abbrev pub nodes : ℕ → Acts → List Node
nodes above Done = []
nodes above (Act number level past own rest) =
    record { number = number; above = above; level = level; past = past; own = own } ∷ (nodes level own ++ nodes above rest)
nodes above (When number test taken other rest) = nodes above taken ++ (nodes above other ++ nodes above rest)

-- how many occurrences there are
abbrev pub size : Acts → ℕ
size Done = 0
size (Act number level past own rest) = suc (size own + size rest)
size (When number test taken other rest) = size taken + (size other + size rest)
