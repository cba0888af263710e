use Rattle.std.proofs.Common.{◌≡◌, ◌++◌, drop}
use Rattle.stage_checks.specs.Graphs.{nodes_of}
use Rattle.stage_checks.proofs.activations.nodes_of.Given as goal

abbrev pub invariant-loop-choice : goal.invariant-loop-choice
invariant-loop-choice g l = l.row.items ++ nodes_of (g.N.Names.tree l.names) (drop l.choice-index l.choices) ≡ nodes_of (g.N.Names.tree l.names) l.choices
