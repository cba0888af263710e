-- What time knows of a description.
use Rattle.std.specs.Prelude.{ℕ, zero, suc, Bool, false, List, Option, None, Some, ◌==◌}
use Rattle.std.specs.Option.{option_map, unwrap_or}
use Rattle.std.specs.List.{find}
use Rattle.pipeline_time.specs.Acts.{Acts, Act, Done, Node, nodes}

-- `R` is what lasts from edge to edge beside activations and words, and `M` a moment of an edge. What they are is left open.
pub record Core (R M : Type 0) : Type 0 where
  -- the items of `main`, which is occurrence 0 and runs in no stage
  pub acts : Acts
  pub stages : ℕ
  pub is_root : ℕ → Bool
  -- the level in which the root runs; none without an occurrence of the root or without stages
  pub root_level : Option ℕ
  -- an edge begins, with the values of the pins
  pub begin : List ℕ → R → M
  -- the BEHAVIOR of an occurrence that runs with a word
  pub behave : ℕ → ℕ → M → M
  -- the condition of an `if`: whose, its place among that one's, and the word
  pub holds : ℕ → ℕ → ℕ → M → Bool
  -- whether the instruction of a word chooses the occurrence; true of what isn't past the root
  pub chooses : ℕ → ℕ → Bool
  -- the word that the root takes
  pub fetch : M → ℕ
  -- whether some instruction has the word
  pub decodes : ℕ → Bool
  -- an edge ends
  pub close : M → R
  -- the levels that stalls and flushes named so far in the edge, newest first
  pub stalled : M → List ℕ
  pub flushed : M → List ℕ

-- The level in which a slot is made: the root's, and that of the first stage where the root runs in no stage. Without a root none is made.
abbrev pub level_of_slots : Option ℕ → ℕ
level_of_slots None = 0
level_of_slots (Some zero) = 1
level_of_slots (Some (suc stage)) = suc stage

module _ {R M : Type 0} (core : Core R M) where
  abbrev pub main_node : Node
  main_node = record { number = 0; above = 0; level = 0; past = false; own = core.acts }

  -- all occurrences, in order of their numbers
  abbrev pub all_nodes : List Node
  all_nodes = nodes 0 (Act 0 0 false core.acts Done)

  abbrev pub node_of : ℕ → Option Node
  node_of number = find (λ node. node.number == number) all_nodes

  -- the level of an occurrence, that of its activator, and whether it is past the root
  abbrev pub level_of : ℕ → ℕ
  level_of number = unwrap_or (option_map (λ node. node.level) (node_of number)) 0

  abbrev pub above_of : ℕ → ℕ
  above_of number = unwrap_or (option_map (λ node. node.above) (node_of number)) 0

  abbrev pub is_past : ℕ → Bool
  is_past number = unwrap_or (option_map (λ node. node.past) (node_of number)) false

  abbrev pub slot_level : ℕ
  slot_level = level_of_slots core.root_level
