use Rattle.lisa_tree.specs.Descriptions.{description_tree}
use Rattle.lowered_edges.proofs.Worded.{HasFirsts}
use Rattle.lowered_edges.proofs.programs.firsts.Given as goal

abbrev pub invariant-each : goal.invariant-each
invariant-each l = HasFirsts (description_tree l.machine) l.count l.place l.all.items
