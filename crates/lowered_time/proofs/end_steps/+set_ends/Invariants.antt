use Rattle.lowered_time.proofs.end_steps.+set_ends.Given as goal

abbrev pub decreases-set_ends : goal.decreases-set_ends
decreases-set_ends g l = l.level
