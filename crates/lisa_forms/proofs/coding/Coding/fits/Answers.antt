use Rattle.std.proofs.Common.{List, sym, subst}
use Rattle.std.specs.Global.{Vec}
use Rattle.pattern_tables.specs.declared.fields.Place.{Place}
use Rattle.form_patterns.specs.Rows.{ArePlaces}
use Rattle.lisa_forms.proofs.coding.Coding.fits.Goals as goal

pub returns : goal.returns
returns c = λ d is. c.are_values.ensures d (subst (λ (rows : List (Vec Place)). ArePlaces d rows) (sym c.deref.ensures.value) is.all_places)
