use Rattle.std.proofs.Common.{◌≤◌, subst}
use Rattle.form_texts.proofs.Segmented.{none_templated, more_templated, all_templated}
use Rattle.form_texts.proofs.Tabled.{none_opened}
use Rattle.form_texts.proofs.segments.Templates.make.Goals as goal

pub loop-operation-init : goal.loop-operation-init
loop-operation-init g c = record {
  opened = none_opened _ c.new.ensures.items c.new-2.ensures.items;
  written = none_templated (g.N.Names.tree c.args.names.now) _ _ c.new-segments.ensures.items;
}

pub loop-operation-preserved : goal.loop-operation-preserved
loop-operation-preserved g c =
    let d = g.N.Names.tree c.args.names.now in
    let made = c.in_ok-segments_of.ensures in
    record {
      opened = made.opened;
      written = more_templated d c.loop-operation.operation c.loop-operation.table.strings.items c.segments_of.new.table.strings.items c.loop-operation.segments.items c.push.new.self.items c.in_ok-segments_of.field-0 made.longer
          c.in_ok-push.ensures.items c.loop-operation.invariant.written c.coding_items-items.result.now c.coding_items-items.ensures c.syntax_items-shown.result.now c.syntax_items-shown.ensures made.written;
    }

pub returns : goal.returns
returns g c =
    let d = g.N.Names.tree c.args.names.now in
    all_templated d c.loop-operation.operation _ (subst (λ k. k ≤ c.loop-operation.operation) c.operation_count-operation-end.ensures c.loop-operation-test.false) c.loop-operation.invariant.opened c.loop-operation.invariant.written
