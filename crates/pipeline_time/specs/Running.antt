-- What runs in an edge, and what it records.
use Rattle.std.specs.Prelude.{ℕ, zero, suc, Bool, List, ◌∷◌, Option, Some, ◌&&◌, ◌==◌, if◌then◌else◌}
use Rattle.pipeline_time.specs.Acts.{Acts, Done, Act, When, Node}
use Rattle.pipeline_time.specs.Cores.{Core}

-- an occurrence that was activated to run in a later stage, the level in which its activator ran, and its word
pub record Activation : Type 0 where
  pub occurrence : ℕ
  pub level : ℕ
  pub word : ℕ

-- how far an edge has come
pub record Running (M : Type 0) : Type 0 where
  pub moment : M
  -- what was recorded in the edge, newest first
  pub made : List Activation
  -- what was activated from no stage, and is due in the first stage in this edge alone: occurrences with their words, newest first
  pub first : List (ℕ × ℕ)
  -- the word that the root took, where it ran and decoded
  pub slot : Option ℕ
  -- the occurrences that ran, newest first
  pub ran : List ℕ

-- what is past the root has the word of its activator, and all else none, which is 0
abbrev pub word_below : Bool → ℕ → ℕ
word_below past word = if past then word else 0

module _ {R M : Type 0} (core : Core R M) where
  -- the word with which an occurrence runs: the root takes its own
  abbrev pub own_word : ℕ → Bool → ℕ → Running M → ℕ
  own_word number past word now = if core.is_root number then core.fetch now.moment else word_below past word

  -- its BEHAVIOR
  unfoldable pub behavior : ℕ → ℕ → Running M → Running M
  behavior number word now = record {
    moment = core.behave number word now.moment;
    made = now.made;
    first = now.first;
    slot = if core.is_root number && core.decodes word then Some word else now.slot;
    ran = number ∷ now.ran;
  }

  -- an item of a later stage under an activator of a level
  unfoldable pub activate : ℕ → ℕ → ℕ → Running M → Running M
  activate zero number word now = record {
    moment = now.moment;
    made = now.made;
    first = (number, word) ∷ now.first;
    slot = now.slot;
    ran = now.ran;
  }
  activate (suc stage) number word now = record {
    moment = now.moment;
    made = record { occurrence = number; level = suc stage; word = word } ∷ now.made;
    first = now.first;
    slot = now.slot;
    ran = now.ran;
  }

  -- The items under an activator that runs at the level `here` with a word, in listed order. One that the word's instruction doesn't choose
  -- does nothing. One of the same level runs at once: its BEHAVIOR, then its own items. One of a later level is recorded. The condition of an
  -- `if` is evaluated when its turn comes, and then the items of the branch follow.
  abbrev pub run : ℕ → ℕ → Acts → Running M → Running M
  run here word Done now = now
  run here word (Act number level past own rest) now =
      let mine = own_word number past word now in
      run here word rest
      (if core.chooses number word
      then (if level == here then run here mine own (behavior number mine now) else activate here number (word_below past word) now)
      else now)
  run here word (When number test taken other rest) now =
      run here word rest (if core.holds number test word now.moment then run here word taken now else run here word other now)

  -- an occurrence that was activated with a word: its BEHAVIOR, then its items
  abbrev pub run_occurrence : ℕ → Node → Running M → Running M
  run_occurrence word node now =
      let mine = own_word node.number node.past word now in
      run node.level mine node.own (behavior node.number mine now)
