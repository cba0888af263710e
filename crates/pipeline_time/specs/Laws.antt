-- What holds of each sound core, after any edges.
use Rattle.std.specs.Prelude.{ℕ, suc, ◌<◌, ◌≤◌, ◌≡◌, ◌≢◌, Bool, true, false, List, [], ◌∷◌, ◌++◌, Some, length, is_some, nat_eq, nat_le, ◌==◌, if◌then◌else◌}
use Rattle.std.specs.Option.{unwrap_or}
use Rattle.std.specs.List.{filter, Contains, IsDistinct}
use Rattle.pipeline_time.specs.Acts.{Acts, Act, When, Node, nodes, size}
use Rattle.pipeline_time.specs.Cores.{Core, main_node, all_nodes, node_of, level_of, above_of, is_past, slot_level}
use Rattle.pipeline_time.specs.Running.{Running, word_below, activate, run, run_occurrence}
use Rattle.pipeline_time.specs.Edges.{Standing, is_held, is_flushed, waiting, is_due, turn, turns, start}
use Rattle.pipeline_time.specs.Journal.{Log, Entry, place, is_at, standing, journal, slots, stands, stage_word}
use Rattle.pipeline_time.specs.States.{edge_of, after}
use Rattle.pipeline_time.specs.Bits.{Hardware, bits_stand, next_hardware, hardware_after, shown}

-- The held stages are the first ones, up to some stage, or none.
abbrev pub HeldAreFirst : List ℕ → Type 0
HeldAreFirst stalled = (last : ℕ) × ((level : ℕ) → 0 < level → is_held stalled level ≡ nat_le level last)

-- how many of these entries stand at a level
abbrev pub count_standing : List Log → ℕ → List Entry → ℕ
count_standing past level entries = length (filter (λ entry. is_at level (place past entry)) entries)

module _ {R M : Type 0} (core : Core R M) where
  -- ---- items

  -- An item that the word's instruction doesn't choose does nothing.
  abbrev pub UnchosenDoNothing : Type 0
  UnchosenDoNothing =
      (here word number level : ℕ) (past : Bool) (own rest : Acts) (now : Running M)
      → core.chooses number word ≡ false
      → run core here word (Act number level past own rest) now ≡ run core here word rest now

  -- One of its activator's level runs at once, and then the items that follow it.
  abbrev pub SameLevelRunsAtOnce : Type 0
  SameLevelRunsAtOnce =
      (here word above number : ℕ) (past : Bool) (own rest : Acts) (now : Running M)
      → core.chooses number word ≡ true
      → run core here word (Act number here past own rest) now
      ≡ run core here word rest (run_occurrence core word (record { number = number; above = above; level = here; past = past; own = own }) now)

  -- One of another level is recorded where its activator runs.
  abbrev pub OtherLevelIsRecorded : Type 0
  OtherLevelIsRecorded =
      (here word number level : ℕ) (past : Bool) (own rest : Acts) (now : Running M)
      → core.chooses number word ≡ true
      → level ≢ here
      → run core here word (Act number level past own rest) now ≡ run core here word rest (activate core here number (word_below past word) now)

  -- Of an `if` the items of one branch run, by the condition as it is when its turn comes, and then what follows.
  abbrev pub OneBranchRuns : Type 0
  OneBranchRuns =
      (here word number test : ℕ) (first second rest : Acts) (now : Running M)
      → (core.holds number test word now.moment ≡ true → run core here word (When number test first second rest) now ≡ run core here word rest (run core here word first now))
      × (core.holds number test word now.moment ≡ false → run core here word (When number test first second rest) now ≡ run core here word rest (run core here word second now))

  -- Each number below the count of occurrences is that of one of them.
  abbrev pub NumbersFindOccurrences : Type 0
  NumbersFindOccurrences = (number : ℕ) → number < suc (size core.acts) → (node : Node) × (node_of core number ≡ Some node) × (node.number ≡ number)

  -- ---- one edge

  -- From the turn of a level on, nothing changes which of the levels from that one on are held or flushed: each stall and flush of a stage is
  -- issued before its turn.
  abbrev pub ControlsComeFirst : Type 0
  ControlsComeFirst =
      (stands : Standing) (level later : ℕ) (now : Running M)
      → level ≤ later
      → (is_held (core.stalled (turns core stands level now).moment) later ≡ is_held (core.stalled now.moment) later)
      × (is_flushed (core.flushed (turns core stands level now).moment) later ≡ is_flushed (core.flushed now.moment) later)

  -- No occurrence runs twice in an edge.
  abbrev pub RunsOnce : Type 0
  RunsOnce = (first : R) (entries : List (List ℕ)) (pins : List ℕ) → IsDistinct nat_eq (edge_of core pins (after core first entries)).ran

  -- the turn of a level comes, in an edge before which this stood
  pub data TurnComes (stands : Standing) (pins : List ℕ) (memory : R) : ℕ → Running M → Type 0 where
    at_first : TurnComes stands pins memory core.stages (run_occurrence core 0 (main_node core) (start core pins memory))
    further : {level : ℕ} {now : Running M} → TurnComes stands pins memory (suc level) now → TurnComes stands pins memory level (turn core stands (suc level) now)

  -- Of what is due in one stage none is below another. So to run it by occurrence numbers, with what runs at once nested, is to run all that
  -- runs there in the order of numbers.
  abbrev pub DueAreDisjoint : Type 0
  DueAreDisjoint =
      (first : R) (entries : List (List ℕ)) (pins : List ℕ) (level : ℕ) (now : Running M) (upper lower : Node)
      → 0 < level
      → TurnComes (stands core (after core first entries).past) pins (after core first entries).memory level now
      → Contains (all_nodes core) upper
      → Contains (nodes upper.level upper.own) lower
      → is_due core (waiting core (stands core (after core first entries).past) level now) level upper ≡ true
      → is_due core (waiting core (stands core (after core first entries).past) level now) level lower ≡ true
      → ⊥

  -- ---- after any edges

  -- At most one activation of an occurrence stands in a stage, and at most one slot.
  abbrev pub OneStands : Type 0
  OneStands =
      (first : R) (entries : List (List ℕ)) (level number : ℕ)
      → (count_standing (after core first entries).past level (journal core number (after core first entries).past) ≤ 1)
      × (count_standing (after core first entries).past level (slots core (after core first entries).past) ≤ 1)

  -- An activation stands in stages after its activator's and up to its own. What an activator in no stage activates never stands.
  abbrev pub StandsBetween : Type 0
  StandsBetween =
      (first : R) (entries : List (List ℕ)) (level number : ℕ)
      → is_some (stands core (after core first entries).past level number) ≡ true
      → (0 < above_of core number) × (above_of core number < level) × (level ≤ level_of core number)

  -- The word of a stage is that of the slot that stands there, and 0 where none does.
  abbrev pub SlotsAreWords : Type 0
  SlotsAreWords =
      (first : R) (entries : List (List ℕ)) (level : ℕ)
      → ((slot : Entry) → Contains (slots core (after core first entries).past) slot → is_at level (place (after core first entries).past slot) ≡ true → stage_word core (after core first entries).past level ≡ slot.word)
      × (count_standing (after core first entries).past level (slots core (after core first entries).past) ≡ 0 → stage_word core (after core first entries).past level ≡ 0)

  -- A slot stands in stages behind the one in which slots are made. Without a root none does.
  abbrev pub SlotsStandBehind : Type 0
  SlotsStandBehind =
      (first : R) (entries : List (List ℕ)) (level : ℕ)
      → is_some (standing (after core first entries).past level (slots core (after core first entries).past)) ≡ true
      → (is_some core.root_level ≡ true) × (slot_level core < level) × (level ≤ core.stages)

  -- What stands past the root has the word of its stage; it is an instruction's, which chooses the occurrence.
  abbrev pub PastIsChosen : Type 0
  PastIsChosen =
      (first : R) (entries : List (List ℕ)) (level number word : ℕ)
      → is_past core number ≡ true
      → stands core (after core first entries).past level number ≡ Some word
      → (stage_word core (after core first entries).past level ≡ word) × (core.decodes word ≡ true) × (core.chooses number word ≡ true)

  -- the word that moves on from a level, at that level's turn: the one that the root took, where slots are made, and else the stage's
  abbrev pub turn_word : List Log → Running M → ℕ → ℕ
  turn_word past now level = if level == slot_level core then unwrap_or now.slot 0 else stage_word core past level

  -- What is due past the root runs with the word that moves on from there; it is an instruction's, which chooses the occurrence. All else
  -- that is due runs with the word 0.
  abbrev pub DueIsChosen : Type 0
  DueIsChosen =
      (first : R) (entries : List (List ℕ)) (pins : List ℕ) (level : ℕ) (now : Running M) (node : Node)
      → 0 < level
      → TurnComes (stands core (after core first entries).past) pins (after core first entries).memory level now
      → Contains (all_nodes core) node
      → is_due core (waiting core (stands core (after core first entries).past) level now) level node ≡ true
      → (word : ℕ)
      → word ≡ unwrap_or (waiting core (stands core (after core first entries).past) level now node.number) 0
      → (word ≡ word_below node.past (turn_word (after core first entries).past now level))
      × (node.past ≡ true → (core.decodes word ≡ true) × (core.chooses node.number word ≡ true))

  -- What stands by the bits and words that the state shows is what stands by the journal.
  abbrev pub BitsStand : Type 0
  BitsStand = (first : R) (entries : List (List ℕ)) → bits_stand core (shown core (after core first entries)) ≡ stands core (after core first entries).past

  -- One edge from what the state shows gives what the next state shows.
  abbrev pub EdgeIsState : Type 0
  EdgeIsState =
      (first : R) (entries : List (List ℕ)) (pins : List ℕ) (hard : Hardware R)
      → hard ≡ shown core (after core first entries)
      → next_hardware core hard pins ≡ shown core (after core first (entries ++ pins ∷ []))

  -- Memory, bits and words of the hardware are those that the state shows.
  abbrev pub HardwareIsState : Type 0
  HardwareIsState = (first : R) (entries : List (List ℕ)) → hardware_after core first entries ≡ shown core (after core first entries)
