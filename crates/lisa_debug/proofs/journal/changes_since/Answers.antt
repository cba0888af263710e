use Rattle.std.proofs.Common.{◌≡◌, ◌<◌, ◌∙◌, ap, arith, length, sym, subst, refl}
use Rattle.std.specs.Prelude.{All, slice_index}
use Rattle.lisa_debug.specs.Kept.{restored, with_change}
use Rattle.lisa_debug.proofs.Rows.{restored_more, placed_more, all_written}
use Rattle.lisa_debug.proofs.journal.changes_since.Goals as goal

pub loop-item-preserved : goal.loop-item-preserved
loop-item-preserved g c =
    let shape = g.met.E.Engine.shaped c.args.engine.now in
    let within : c.loop-item.item < length (g.E.Engine.present c.args.engine.now).items = omega (arith, shape.values.count, c.requires) in
    let same : length c.args.row.now ≡ length (g.E.Engine.present c.args.engine.now).items = omega (arith, shape.values.count, c.requires) in
    let there : c.loop-item.item < length (g.E.Engine.machine c.args.engine.now).items = omega (arith, c.requires) in
    let grown : c.keep_change.new.changes.items ≡ with_change c.loop-item.changes.items c.loop-item.item (slice_index c.args.row.now c.loop-item.item) c.value.result = c.in_ok-keep_change.ensures in (
      ap (λ changes. restored changes (g.E.Engine.present c.args.engine.now).items) grown
          ∙ restored_more c.loop-item.item c.args.row.now (g.E.Engine.present c.args.engine.now).items c.loop-item.changes.items (slice_index c.args.row.now c.loop-item.item) c.value.result
          within same c.value.ensures refl c.loop-item.invariant.0,
      subst (λ changes. All (λ change. change.item < length (g.E.Engine.machine c.args.engine.now).items) changes) (sym grown)
          (placed_more (length (g.E.Engine.machine c.args.engine.now).items) c.loop-item.item c.loop-item.changes.items (slice_index c.args.row.now c.loop-item.item) c.value.result there c.loop-item.invariant.1),
    )

pub returns-clause-back : goal.returns-clause-back
returns-clause-back g c =
    let shape = g.met.E.Engine.shaped c.args.engine.now in
    c.loop-item.invariant.0 ∙ all_written c.loop-item.item c.args.row.now (g.E.Engine.present c.args.engine.now).items (omega arith) (omega (arith, shape.values.count, c.requires))
