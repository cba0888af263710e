use Rattle.std.proofs.Common.{◌≡◌, map, take}
use Rattle.form_patterns.specs.Rows.{pairs}
use Rattle.form_patterns.proofs.Rowed.{form_pairs}
use Rattle.form_patterns.proofs.field_places.all_places.Given as goal

abbrev pub invariant-loop-form : goal.invariant-loop-form
invariant-loop-form l = map pairs l.rows.items ≡ map form_pairs (take l.form-index l.forms)
