-- The slot of what stands past the root.
use Rattle.std.specs.Prelude.{ℕ, ◌<◌, ◌≡◌, true, List, Option, Some, ◌==◌, if◌then◌else◌}
use Rattle.std.specs.List.{Contains}
use Rattle.pipeline_time.specs.Acts.{Node}
use Rattle.pipeline_time.specs.Cores.{Core, all_nodes, is_past, slot_level}
use Rattle.pipeline_time.specs.Running.{Running}
use Rattle.pipeline_time.specs.Edges.{waiting, is_due}
use Rattle.pipeline_time.specs.Journal.{Log, standing, slots, stands}
use Rattle.pipeline_time.specs.States.{after}
use Rattle.pipeline_time.specs.Laws.{TurnComes}

module _ {R M : Type 0} (core : Core R M) where
  -- the word of the slot that stands at a level
  abbrev pub slot_at : List Log → ℕ → Option ℕ
  slot_at past level = standing past level (slots core past)

  -- the slot that moves on from a level, at that level's turn: the one that the root took, where slots are made, and else the stage's
  abbrev pub turn_slot : List Log → Running M → ℕ → Option ℕ
  turn_slot past now level = if level == slot_level core then now.slot else slot_at past level

  -- What stands past the root stands with a slot of its word.
  abbrev pub PastHasSlot : Type 0
  PastHasSlot =
      (first : R) (entries : List (List ℕ)) (level number word : ℕ)
      → is_past core number ≡ true
      → stands core (after core first entries).past level number ≡ Some word
      → slot_at (after core first entries).past level ≡ Some word

  -- What is due past the root is due with a slot of its word.
  abbrev pub DueHasSlot : Type 0
  DueHasSlot =
      (first : R) (entries : List (List ℕ)) (pins : List ℕ) (level : ℕ) (now : Running M) (node : Node) (word : ℕ)
      → 0 < level
      → TurnComes core (stands core (after core first entries).past) pins (after core first entries).memory level now
      → Contains (all_nodes core) node
      → is_due core (waiting core (stands core (after core first entries).past) level now) level node ≡ true
      → node.past ≡ true
      → waiting core (stands core (after core first entries).past) level now node.number ≡ Some word
      → turn_slot (after core first entries).past now level ≡ Some word
