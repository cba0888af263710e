-- The journal of all activations and slots ever made, and where each of them stands.
use Rattle.std.specs.Prelude.{ℕ, suc, Bool, false, List, [], ◌∷◌, ◌++◌, length, Option, None, Some, nat_lt, ◌==◌, if◌then◌else◌}
use Rattle.std.specs.Option.{option_map, unwrap_or}
use Rattle.std.specs.List.{find}
use Rattle.pipeline_time.specs.Cores.{Core, level_of, slot_level}
use Rattle.pipeline_time.specs.Running.{Activation}
use Rattle.pipeline_time.specs.Edges.{is_held, is_flushed, Standing}

-- what is kept of an edge
pub record Log : Type 0 where
  pub stalled : List ℕ
  pub flushed : List ℕ
  pub made : List Activation
  pub slot : Option ℕ
  pub ran : List ℕ

-- What is in the journal: the edge in which it was made, the level in which its maker ran, the last level in which it can stand, and its
-- word. An activation ends at its own level, where it runs, and a slot at the last one.
pub record Entry : Type 0 where
  pub edge : ℕ
  pub level : ℕ
  pub last : ℕ
  pub word : ℕ

pub data Place : Type 0 where
  Gone : Place
  At : (level : ℕ) → Place

-- at the end of the edge that made it
abbrev pub first_place : Entry → Place
first_place entry = if nat_lt entry.level entry.last then At (suc entry.level) else Gone

-- at the end of a later edge, from where it stood before
abbrev pub next_place : ℕ → Log → Place → Place
next_place last log Gone = Gone
next_place last log (At level) =
    if is_flushed log.flushed level then Gone
    else (if is_held log.stalled level then At level
    else (if level == last then Gone
    else At (suc level)))

-- where it stands after all edges of the past, whose newest comes first; they are numbered from 1
abbrev pub place : List Log → Entry → Place
place [] entry = Gone
place (log ∷ past) entry =
    if entry.edge == suc (length past) then first_place entry else next_place entry.last log (place past entry)

abbrev pub is_at : ℕ → Place → Bool
is_at level Gone = false
is_at level (At here) = here == level

-- the entries that stand at a level, newest first
abbrev pub standing : List Log → ℕ → List Entry → Option ℕ
standing past level entries = option_map (λ entry. entry.word) (find (λ entry. is_at level (place past entry)) entries)

module _ {R M : Type 0} (core : Core R M) where
  abbrev pub activation_entry : ℕ → Activation → Entry
  activation_entry edge activation = record {
    edge = edge;
    level = activation.level;
    last = level_of core activation.occurrence;
    word = activation.word;
  }

  -- the entries that an edge makes for an occurrence
  abbrev pub entries_of : ℕ → ℕ → List Activation → List Entry
  entries_of number edge [] = []
  entries_of number edge (activation ∷ made) =
      if activation.occurrence == number
      then activation_entry edge activation ∷ entries_of number edge made
      else entries_of number edge made

  -- the activations of an occurrence that were ever made
  abbrev pub journal : ℕ → List Log → List Entry
  journal number [] = []
  journal number (log ∷ past) = entries_of number (suc (length past)) log.made ++ journal number past

  abbrev pub slot_entries : ℕ → Option ℕ → List Entry
  slot_entries edge None = []
  slot_entries edge (Some word) = record { edge = edge; level = slot_level core; last = core.stages; word = word } ∷ []

  -- the slots that were ever made
  abbrev pub slots : List Log → List Entry
  slots [] = []
  slots (log ∷ past) = slot_entries (suc (length past)) log.slot ++ slots past

  -- the word of the activation of an occurrence that stands at a level
  abbrev pub stands : List Log → Standing
  stands past level number = standing past level (journal number past)

  -- the word of the slot that stands at a level, or 0
  abbrev pub stage_word : List Log → ℕ → ℕ
  stage_word past level = unwrap_or (standing past level (slots past)) 0
