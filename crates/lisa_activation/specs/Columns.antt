-- What an edge does to the bits of one occurrence.
use Rattle.std.specs.Prelude.{ℕ, zero, suc, ◌≡◌, Bool, not, ◌&&◌, ◌||◌, nat_eq, slice_index}
use Rattle.activation_bits.specs.Members.{has}
use Rattle.lisa_activation.specs.declared.columns.column.Column.{Column}

-- whether a stage is neither held nor flushed
abbrev pub is_open : ℕ → ℕ → ℕ → Bool
is_open held flushed stage = not (has held stage) && not (has flushed stage)

-- Whether an occurrence stands in a stage when an edge ends, by the stages in which it stood, in which it runs, and in which it was recorded:
-- what is held and not flushed stays; and what stood or was recorded in the stage before, and didn't run there, moves in where that one was
-- open.
abbrev pub ends : (ℕ → Bool) → (ℕ → Bool) → (ℕ → Bool) → ℕ → ℕ → ℕ → Bool
ends stood runs recorded held flushed zero = stood 0 && (has held 0 && not (has flushed 0))
ends stood runs recorded held flushed (suc stage) =
    (stood (suc stage) && (has held (suc stage) && not (has flushed (suc stage))))
    || (is_open held flushed stage && ((stood stage && not (runs stage)) || recorded stage))

-- whether an occurrence is due: it runs in the stage, and stands there, or was activated from no stage in this edge and the stage is the
-- first
abbrev pub due_in : Column → ℕ → ℕ → Bool
due_in column stage bit =
    has (slice_index column.own stage) bit
    && (has (slice_index column.standing stage) bit || (nat_eq stage 0 && has column.first bit))

-- nothing stands, was recorded, or runs
pub record IsBare (column : Column) : Type 0 where
  pub standing : (stage : ℕ) → slice_index column.standing stage ≡ 0
  pub entered : (stage : ℕ) → slice_index column.entered stage ≡ 0
  pub own : (stage : ℕ) → slice_index column.own stage ≡ 0
  pub first : column.first ≡ 0
