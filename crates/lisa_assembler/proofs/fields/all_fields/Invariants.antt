use Rattle.std.proofs.Common.{◌≡◌, map, take}
use Rattle.lisa_assembler.proofs.FieldsMade.{form_bits, row_items}
use Rattle.lisa_assembler.proofs.fields.all_fields.Given as goal

abbrev pub invariant-loop-form : goal.invariant-loop-form
invariant-loop-form l = map row_items l.rows.items ≡ map form_bits (take l.form-index l.forms)
