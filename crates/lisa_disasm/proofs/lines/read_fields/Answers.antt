use Rattle.std.proofs.Common.{◌∙◌, arith}
use Rattle.lisa_disasm.proofs.Reading.{one_more_read, whole_read}
use Rattle.lisa_disasm.proofs.lines.read_fields.Goals as goal

pub field-requires : goal.field-requires
field-requires c = record {
  field = (c.requires.form.0, c.requires.form.1, (c.field_count-field-end.ensures c.requires.form.0 c.requires.form.1 c.loop-field.field).0 (omega arith));
}

pub loop-field-preserved : goal.loop-field-preserved
loop-field-preserved c = λ d is within.
    let has = (c.field_count-field-end.ensures d is c.loop-field.field).0 (omega arith) in
    one_more_read c.args.word _ c.loop-field.field c.field.result _ _ has.placed (c.loop-field.invariant d is within) (c.field.ensures d is) c.in_ok-push.ensures.items

pub returns : goal.returns
returns c = λ d is within.
    c.loop-field.invariant d is within ∙ whole_read d c.args.word c.args.form c.field_count-field-end.result c.loop-field.field (c.field_count-field-end.ensures d is) within (omega arith)
