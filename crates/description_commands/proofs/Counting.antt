-- Counts of eight stages, one after another.
use Rattle.std.proofs.Common.{◌≡◌, ℕ, ◌+◌, ◌<◌, ◌≤◌, cond, List, length}
use Rattle.std.specs.Prelude.{slice_index}
use Rattle.activation_bits.specs.Members.{has}

-- the stages below one have counted an edge, and the others not yet
pub record CountedTo (stages : ℕ) (before now : List ℕ) (to : ℕ) : Type 0 where
  pub done : (stage : ℕ) → stage < to → slice_index now stage ≡ cond (has stages stage) 1 0 + slice_index before stage
  pub left : (stage : ℕ) → to ≤ stage → slice_index now stage ≡ slice_index before stage
  pub same : length now ≡ length before
