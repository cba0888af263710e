-- The words as far as a stage.
use Rattle.std.proofs.Common.{◌≡◌, ◌<◌, ℕ, length}
use Rattle.std.specs.Prelude.{slice_index}
use Rattle.pipeline_states.specs.Taken.{word_in}
use Rattle.pipeline_states.proofs.taken.Taken.words.Given as goal

abbrev pub invariant-loop-stage : goal.invariant-loop-stage
invariant-loop-stage l = record {
  len : length l.words ≡ 8;
  done : (s : ℕ) → s < l.stage → slice_index l.words s ≡ word_in l.self.places.now l.self.items.now s;
}
