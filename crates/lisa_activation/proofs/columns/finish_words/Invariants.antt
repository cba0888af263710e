use Rattle.lisa_activation.proofs.Stages.{FinishedFrom}
use Rattle.lisa_activation.proofs.columns.finish_words.Given as goal

abbrev pub invariant-loop-stage : goal.invariant-loop-stage
invariant-loop-stage l = FinishedFrom l.fn.standing l.standing l.own l.entered l.held l.flushed l.stage
