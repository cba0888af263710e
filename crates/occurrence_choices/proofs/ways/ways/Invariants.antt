use Rattle.scene_paths.specs.Lookups.{tree_of}
use Rattle.occurrence_choices.specs.Standings.{AreWays}
use Rattle.occurrence_choices.proofs.ways.ways.Given as goal

abbrev pub invariant-each : goal.invariant-each
invariant-each g l = AreWays (tree_of l.described) l.number l.ways.items
