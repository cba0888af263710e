use Rattle.lowered_time.specs.Pieces.{steps}
use Rattle.lowered_time.specs.Code.{Adds}
use Rattle.lowered_words.specs.Loading.{cleared}
use Rattle.lowered_words.proofs.loading.clear_all.Given as goal

abbrev pub invariant-loop-place : goal.invariant-loop-place
invariant-loop-place l = Adds (steps (cleared l.base l.place)) l.fn.draft l.draft
