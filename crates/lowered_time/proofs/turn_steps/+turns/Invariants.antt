use Rattle.lowered_time.proofs.turn_steps.+turns.Given as goal

abbrev pub decreases-turns : goal.decreases-turns
decreases-turns g l = l.level
