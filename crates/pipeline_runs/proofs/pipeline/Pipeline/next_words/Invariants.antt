use Rattle.std.proofs.Common.{◌≡◌, length}
use Rattle.pipeline_runs.proofs.Lasts.{WordsTo}
use Rattle.pipeline_runs.proofs.pipeline.Pipeline.next_words.Given as goal

abbrev pub invariant-loop-stage : goal.invariant-loop-stage
invariant-loop-stage g l = record {
  len : length l.next ≡ 8;
  done : WordsTo (g.B.Behaves.core l.self.edge.store) l.slot l.held l.flushed l.self.words l.next l.stage;
}
