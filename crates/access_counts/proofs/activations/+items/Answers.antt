use Rattle.std.proofs.Common.{◌+◌, drop, arith}
use Rattle.lisa_tree.specs.Activations.{act_trees}
use Rattle.description_places.proofs.Depths.{chosen_depth, other_depth, item_depth}
use Rattle.access_counts.specs.Accesses.{items_accesses}
use Rattle.access_counts.proofs.Noting.{both_noted, going_on}
use Rattle.access_counts.proofs.Lists.{one_item, choose_added, choose_else_added}
use Rattle.access_counts.proofs.activations.+items.Goals as goal

pub note_item-note_activation-requires : goal.note_item-note_activation-requires
note_item-note_activation-requires g t c κs within =
    let a = c.in-Choose in
    (omega (arith, c.decreases, chosen_depth c.args.item.now a.test a.chosen a.other c.deref.result.now a.is c.deref.ensures.value), (within, c.note_value.ensures.room))

pub note_item-note_activation-requires-in-Some : goal.note_item-note_activation-requires-in-Some
note_item-note_activation-requires-in-Some g t c κs within =
    let a = c.in-Choose in
    let b = c.in-Some in (
      omega (arith, c.decreases, other_depth c.args.item.now a.test a.chosen a.other c.deref.result.now a.is c.deref.ensures.value b.other c.deref-in-Some.result.now b.is c.deref-in-Some.ensures.value),
      (within, c.note_activation.ensures.room),
    )

pub note_activation-note_item-requires : goal.note_activation-note_item-requires
note_activation-note_item-requires g t c κs within =
    (omega (arith, c.decreases, item_depth c.args.all.now c.loop-item.item-index c.item-item.result (omega arith) c.item-item.is), (within, c.loop-item.invariant.room))

pub note_item-returns-in-None : goal.note_item-returns-in-None
note_item-returns-in-None g t c =
    let d = g.N.Names.tree c.args.names.now in
    let a = c.in-Choose in
    choose_added d c.args.operation _ _ _ c.args.item.now a.test a.chosen a.other c.deref.result.now a.is c.in-None.is c.deref.ensures.value
    (both_noted d c.args.operation _ _ _ _ _ _ c.note_value.ensures c.note_activation.ensures)

pub note_item-returns-in-Some : goal.note_item-returns-in-Some
note_item-returns-in-Some g t c =
    let d = g.N.Names.tree c.args.names.now in
    let a = c.in-Choose in
    let b = c.in-Some in
    choose_else_added d c.args.operation _ _ _ c.args.item.now a.test a.chosen b.other a.other c.deref.result.now c.deref-in-Some.result.now a.is b.is c.deref.ensures.value c.deref-in-Some.ensures.value
    (both_noted d c.args.operation _ _ _ _ _ _ c.note_value.ensures (both_noted d c.args.operation _ _ _ _ _ _ c.note_activation.ensures c.note_activation-in-Some.ensures))

pub note_activation-loop-item-preserved : goal.note_activation-loop-item-preserved
note_activation-loop-item-preserved g t c =
    let d = g.N.Names.tree c.args.names.now in
    going_on d c.args.operation _ _ _ _ _ _ (λ x names. items_accesses x names (act_trees (drop (c.loop-item.item-index + 1) c.args.all.now))) _ c.loop-item.invariant c.note_item.ensures
    (λ x names. one_item x names c.args.all.now c.loop-item.item-index c.item-item.result (omega arith) c.item-item.is)
