use Rattle.std.proofs.Common.{◌∙◌, arith}
use Rattle.form_patterns.proofs.Listing.{all_made}
use Rattle.form_patterns.proofs.Rowed.{form_pairs, rows_are}
use Rattle.form_patterns.proofs.field_places.all_places.Goals as goal

pub returns : goal.returns
returns c = λ d are.
    rows_are d c.args.forms.now c.loop-form.rows.items are (c.loop-form.invariant ∙ all_made form_pairs c.args.forms.now c.loop-form.form-index (omega (arith, c.loop-form-test.false)))
