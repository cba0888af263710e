use Rattle.lisa_assembler.proofs.FieldsMade.{bits_made}
use Rattle.lisa_assembler.proofs.fields.+add_form_fields.Goals as goal

pub returns : goal.returns
returns t c =
    bits_made c.args.form.now c.deref.result.now c.deref-child-items.result.now c.loop-child.child-index c.args.all.now.items c.add_fields.new.all.items c.loop-child.all.items
    c.deref.ensures.value c.deref-child-items.ensures.value c.loop-child-test.false c.in_ok-add_fields.ensures c.loop-child.invariant
