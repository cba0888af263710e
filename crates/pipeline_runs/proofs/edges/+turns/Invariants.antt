use Rattle.pipeline_runs.proofs.edges.+turns.Given as goal

abbrev pub decreases-turns : goal.decreases-turns
decreases-turns g l = l.level
