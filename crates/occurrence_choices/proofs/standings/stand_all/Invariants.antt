use Rattle.scene_paths.specs.lisa_forms.Choosing.{numbered_form}
use Rattle.scene_paths.specs.Lookups.{tree_of}
use Rattle.occurrence_choices.specs.Standings.{AreStandings}
use Rattle.occurrence_choices.proofs.standings.stand_all.Given as goal

abbrev pub invariant-each : goal.invariant-each
invariant-each l = AreStandings (tree_of l.described) (numbered_form (tree_of l.described) l.form) l.number l.kept.items
