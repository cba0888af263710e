use Rattle.instruction_forms.specs.declared.form.Form.{out-Form}
use Rattle.form_patterns.proofs.Framing.{rest_frame}
use Rattle.form_patterns.proofs.Going.{past_bits, past_field, past_child, past_last, all_added}
use Rattle.form_patterns.proofs.literal_bits.+add_form.Goals.{in-Bits, in-Field, in-Child+in-Some, in-Child+in_default}
use Rattle.form_patterns.proofs.literal_bits.+add_form.Goals as goal

pub loop-item-preserved : goal.loop-item-preserved
loop-item-preserved g t c =
    let d = g.N.Names.tree c.args.names.now in
    let f = out-Form c.args.form.now in
    let all = c.own_items-items.result.now in
    let whole = rest_frame d f.operation all f.children.items in
    let p = c.args.bits.now in
    let q = c.loop-item.bits in
    let i = c.loop-item.item-index in
    let item = c.item-item.result in
    let place = c.loop-item.place in
    let s = c.match-item.bits in
    let k = c.match-item.place in
    elim c.match-item.branch [
      | in-Bits w ↦ past_bits d f.operation f.children.items all i item c.loop-item-test.true c.item-item.is whole p q place c.loop-item.invariant w.in-Bits.pattern w.add_pattern.new.bits s k w.in-Bits.is w.place-is w.bits-is w.add_pattern.ensures
      | in-Field w ↦ past_field d f.operation f.children.items all i item c.loop-item-test.true c.item-item.is whole p q place c.loop-item.invariant w.in-Field.field-0 w.in-Field.pattern w.pattern_width.result w.add_repeated.new.bits s k w.in-Field.is w.pattern_width.ensures w.place-is w.bits-is w.add_repeated.ensures
      | in-Child+in-Some w ↦
          let found = w.in-Some.ensures.lookup in
          past_child d f.operation f.children.items all i item c.loop-item-test.true c.item-item.is whole p q place c.loop-item.invariant w.in-Child.field-0 w.in-Some.child.now w.deref.result.now w.add_form.new.bits s k w.in-Child.is w.deref.ensures.value found.3.0 found.1 w.place-is w.bits-is w.add_form.ensures
      | in-Child+in_default w ↦
          past_last d f.operation f.children.items all i item c.loop-item-test.true c.item-item.is whole p q place c.loop-item.invariant w.in-Child.field-0 w.deref.result.now s k w.in-Child.is w.deref.ensures.value w.in_default.ensures.lookup.3 w.place-is w.bits-is
    ]

pub returns : goal.returns
returns g t c =
    all_added (g.N.Names.tree c.args.names.now) c.args.form.now c.own_items-items.result.now c.loop-item.item-index c.loop-item.place c.args.bits.now c.loop-item.bits c.own_items-items.ensures c.loop-item-test.false c.loop-item.invariant
