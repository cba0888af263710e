-- What time asks of a description; each accepted one has it.
use Rattle.std.specs.Prelude.{ℕ, suc, ◌+◌, ◌<◌, ◌≤◌, ◌≡◌, Bool, true, false, ◌||◌, List, ◌++◌, Some}
use Rattle.std.specs.List.{All}
use Rattle.pipeline_time.specs.Acts.{Acts, Done, Act, When, size}
use Rattle.pipeline_time.specs.Cores.{Core}

-- what a BEHAVIOR of a level adds to the levels named so far: only earlier ones, unless it runs in no stage
pub record NamesEarlier (level : ℕ) (before after : List ℕ) : Type 0 where
  pub more : List ℕ
  pub is_added : after ≡ more ++ before
  pub are_earlier : 0 < level → All (λ named. named < level) more

-- an occurrence under an activator of the level `above`, which is the root or past it, or is not
pub record IsOccurrence {R M : Type 0} (core : Core R M) (above : ℕ) (inside : Bool) (number level : ℕ) (past : Bool) : Type 0 where
  pub ordered : above ≤ level
  pub within : level ≤ core.stages
  pub stalls : (word : ℕ) (m : M) → NamesEarlier level (core.stalled m) (core.stalled (core.behave number word m))
  pub flushes : (word : ℕ) (m : M) → NamesEarlier level (core.flushed m) (core.flushed (core.behave number word m))
  -- the root
  pub root : core.is_root number ≡ true → 0 < core.stages → core.root_level ≡ Some level
  -- past the root stands only what the root activates, and what is activated there
  pub past_inside : past ≡ true → inside ≡ true
  -- only instructions choose
  pub chosen : past ≡ true → (word : ℕ) → core.chooses number word ≡ true → core.decodes word ≡ true

module _ {R M : Type 0} (core : Core R M) where
  -- the occurrences are numbered in preorder from a number on
  abbrev pub IsTree : ℕ → Bool → ℕ → Acts → Type 0
  IsTree above inside from Done = Unit {0}
  IsTree above inside from (Act number level past own rest) =
      (number ≡ from)
      × IsOccurrence core above inside number level past
      × IsTree level (past || core.is_root number) (suc from) own
      × IsTree above inside (suc (from + size own)) rest
  IsTree above inside from (When number test taken other rest) =
      IsTree above inside from taken
      × IsTree above inside (from + size taken) other
      × IsTree above inside (from + (size taken + size other)) rest

pub record IsSound {R M : Type 0} (core : Core R M) : Type 0 where
  pub tree : IsTree core 0 false 0 (Act 0 0 false core.acts Done)
  -- the one occurrence that may be the root
  pub root : ℕ
  pub one_root : (number : ℕ) → core.is_root number ≡ true → number ≡ root
  -- where it has a level there are stages, and it is one of theirs or none
  pub root_within : (level : ℕ) → core.root_level ≡ Some level → (0 < core.stages) × (level ≤ core.stages)
