use Rattle.std.proofs.Common.{◌+◌, ◌∙◌, ap, map}
use Rattle.instruction_forms.specs.Trees.{in_turn, form_tree}
use Rattle.instruction_forms.specs.declared.form.Form.{out-Form}
use Rattle.std.specs.List.{flat_map}
use Rattle.form_texts.specs.Segments.{segment_symbols}
use Rattle.form_texts.specs.Strings.{part_of}
use Rattle.form_texts.specs.Written.{inner_count, numbered_fields, written_parts}
use Rattle.form_texts.proofs.Trees.{counted_on, written_on, inner_counted, all_written}
use Rattle.form_texts.proofs.form_symbols.+write.Goals as goal

pub loop-child-preserved : goal.loop-child-preserved
loop-child-preserved t c =
    let children = c.deref-child-items.result.now in
    let child = c.child-item.result in
    let i = c.loop-child.child-index in
    let first = c.loop-child.end in
    let made = c.in_ok-made.made in
    record {
      parts = λ d are. written_on children i child c.loop-child-test.true c.child-item.is first c.len.result c.in_ok-behind.behind made.end c.len.ensures c.in_ok-behind.ensures c.in_ok-made.ensures.end c.args.templates.now.table.strings.items d
          c.loop-child.parts.items c.push.new.self.items made.symbols (written_parts d c.args.inner (in_turn (map form_tree children))) (c.in_ok-made.ensures.symbols d are) c.in_ok-push.ensures.items (c.loop-child.invariant.parts d are);
      end = counted_on children i child c.loop-child-test.true c.child-item.is first c.len.result c.in_ok-behind.behind made.end c.len.ensures c.in_ok-behind.ensures c.in_ok-made.ensures.end (c.args.inner + inner_count (in_turn (map form_tree children))) c.loop-child.invariant.end;
    }

pub returns-clause-symbols : goal.returns-clause-symbols
returns-clause-symbols t c = λ d are.
    let strings = c.args.templates.now.table.strings.items in
    let fields = numbered_fields c.args.first c.deref.result.now in
    let parts = map (part_of strings) c.deref-2.result.now in
    all_written c.args.form.now c.deref-child-items.result.now c.deref-child-items.ensures.value c.loop-child.child-index c.loop-child-test.false d strings c.args.first c.args.inner c.loop-child.end
    c.loop-child.parts.items c.deref-2.result.now c.deref-2.ensures.value (c.loop-child.invariant.parts d are) c.deref.result.now c.deref.ensures.value c.in_ok-symbols.symbols.items
    (c.in_ok-symbols.ensures strings ∙ ap (λ l. flat_map (segment_symbols strings fields parts) l) c.of_operation-segments.ensures ∙ are.written (out-Form c.args.form.now).operation fields parts)

pub returns-clause-end : goal.returns-clause-end
returns-clause-end t c =
    inner_counted c.args.form.now c.deref-child-items.result.now c.deref-child-items.ensures.value c.loop-child.child-index c.loop-child-test.false c.args.inner c.loop-child.end c.loop-child.invariant.end
