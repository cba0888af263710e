use Rattle.lowered_edges.proofs.lines.+add_line.Given as goal

abbrev pub decreases-add_line : goal.decreases-add_line
decreases-add_line l = l.number
