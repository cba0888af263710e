-- The fields of boundaries at the end of an edge.
use Rattle.std.specs.Prelude.{ℕ, suc, Bool, ◌||◌, List, unwrap_or, if◌then◌else◌}
use Rattle.pipeline_time.specs.Edges.{is_held, is_flushed}
use Rattle.lisa_meaning.specs.Moments.{Outs, field_at, field_before, written}

-- it stays where the stage behind the boundary was held, and else is 0 where the stage before it was held or flushed
abbrev pub closed_by : Bool → Bool → List (List ℕ) → Outs → ℕ → ℕ → ℕ
closed_by stays empties fields outs s f =
    if stays then field_at fields s f
    else (if empties then 0
    else unwrap_or (written outs s f) (field_before fields s f))

-- by the levels that were stalled and flushed
abbrev pub closed : List ℕ → List ℕ → List (List ℕ) → Outs → ℕ → ℕ → ℕ
closed stalled flushed fields outs s f =
    closed_by (is_held stalled (suc (suc s))) (is_held stalled (suc s) || is_flushed flushed (suc s)) fields outs s f
