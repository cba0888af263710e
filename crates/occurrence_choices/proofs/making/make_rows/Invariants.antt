-- The rows of the forms so far.
use Rattle.scene_paths.specs.Lookups.{tree_of}
use Rattle.occurrence_choices.proofs.Rows.{AreMade}
use Rattle.occurrence_choices.proofs.making.make_rows.Given as goal

abbrev pub invariant-each : goal.invariant-each
invariant-each l = AreMade (tree_of l.described) l.form l.rows.items
