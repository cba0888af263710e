use Rattle.std.proofs.Common.{◌∙◌, map, arith}
use Rattle.form_patterns.proofs.Listing.{all_made}
use Rattle.lisa_assembler.proofs.FieldsMade.{form_bits, row_items, rows_are}
use Rattle.lisa_assembler.proofs.fields.all_fields.Goals as goal

pub returns : goal.returns
returns c = λ d are.
    rows_are d c.args.forms.now (map row_items c.loop-form.rows.items) are (c.loop-form.invariant ∙ all_made form_bits c.args.forms.now c.loop-form.form-index (omega (arith, c.loop-form-test.false)))
