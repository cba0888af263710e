use Rattle.scene_paths.proofs.paths.+home_above.Given as goal

abbrev pub decreases-home_above : goal.decreases-home_above
decreases-home_above l = l.occurrence
