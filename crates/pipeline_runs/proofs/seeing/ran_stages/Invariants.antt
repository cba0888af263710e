use Rattle.pipeline_runs.proofs.Told.{AreToldTo}
use Rattle.pipeline_runs.proofs.seeing.ran_stages.Given as goal

abbrev pub invariant-each : goal.invariant-each
invariant-each l = AreToldTo l.queues l.held l.flushed l.stages l.stage
