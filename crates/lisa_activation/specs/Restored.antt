-- Queues made anew from what shows which activations stand.
use Rattle.std.specs.Prelude.{ℕ, ◌+◌, ◌<◌, ◌≤◌, ◌≡◌, Bool, true, false, ◌&&◌, nat_lt}
use Rattle.lisa_activation.specs.declared.kept.Queues.{Queues}
use Rattle.lisa_activation.specs.Queued.{standing, entered, first, runs_in, above, count, HasTables}

-- whether an occurrence under an activator of this level stands so many stages behind the one after its activator's
abbrev pub comes : (ℕ → ℕ → Bool) → ℕ → ℕ → ℕ → Bool
comes shown level steps number = nat_lt 0 level && (nat_lt (level + steps) 8 && shown (level + steps) number)

-- what stands does so in a stage after its activator's, and not after its own
pub record IsBetween (queues : Queues) (stage number : ℕ) : Type 0 where
  pub has_activator : 0 < above queues number
  pub after_activator : above queues number ≤ stage
  pub until_own : (earlier : ℕ) → earlier < stage → runs_in queues earlier number ≡ false

abbrev pub IsShownBetween : Queues → (ℕ → ℕ → Bool) → Type 0
IsShownBetween queues shown = (stage number : ℕ) → stage < 8 → number < count queues → shown stage number ≡ true → IsBetween queues stage number

-- what is shown stands and nothing else, and nothing was recorded
pub record IsRestored (before after : Queues) (shown : ℕ → ℕ → Bool) : Type 0 where
  pub stand : (stage number : ℕ) → stage < 8 → number < count before → standing after stage number ≡ shown stage number
  pub none_beyond : (stage number : ℕ) → stage < 8 → count before ≤ number → standing after stage number ≡ false
  pub none_entered : (stage number : ℕ) → entered after stage number ≡ false
  pub none_first : (number : ℕ) → first after number ≡ false
  pub tables : HasTables before after
