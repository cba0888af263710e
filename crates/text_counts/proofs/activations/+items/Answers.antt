use Rattle.std.proofs.Common.{sym, arith}
use Rattle.description_places.proofs.Depths.{chosen_depth, other_depth, item_depth}
use Rattle.least_fixed_points.specs.Settles.{entry}
use Rattle.text_counts.proofs.Adding.{begins, items_capped, choose_nodes, choose_else_nodes}
use Rattle.text_counts.proofs.activations.+items.Goals as goal

pub item_nodes-items_nodes-chosen-requires : goal.item_nodes-items_nodes-chosen-requires
item_nodes-items_nodes-chosen-requires g t c κs within =
    let a = c.in-Choose in
    (omega (arith, c.decreases, chosen_depth c.args.item.now a.test a.chosen a.other c.deref.result.now a.is c.deref.ensures.value), within)

pub item_nodes-items_nodes-other-requires : goal.item_nodes-items_nodes-other-requires
item_nodes-items_nodes-other-requires g t c κs within =
    let a = c.in-Choose in
    let b = c.in-Some in (
      omega (arith, c.decreases, other_depth c.args.item.now a.test a.chosen a.other c.deref.result.now a.is c.deref.ensures.value b.other c.deref-in-Some.result.now b.is c.deref-in-Some.ensures.value),
      within,
    )

pub items_nodes-item_nodes-requires : goal.items_nodes-item_nodes-requires
items_nodes-item_nodes-requires g t c κs within =
    (omega (arith, c.decreases, item_depth c.args.all.now c.loop-item.item-index c.item-item.result (omega arith) c.item-item.is), within)

pub item_nodes-returns-in-None : goal.item_nodes-returns-in-None
item_nodes-returns-in-None g t c =
    let a = c.in-Choose in
    rw (c.one_more.ensures, c.plus.ensures, c.expression_nodes-weight.ensures, c.items_nodes-chosen.ensures)
    (sym (choose_nodes (entry c.args.table.now) (g.N.Names.tree c.args.names.now) c.args.operation c.args.item.now a.test a.chosen a.other c.deref.result.now a.is c.in-None.is c.deref.ensures.value))

pub item_nodes-returns-in-Some : goal.item_nodes-returns-in-Some
item_nodes-returns-in-Some g t c =
    let a = c.in-Choose in
    let b = c.in-Some in
    rw (c.one_more-in-Some.ensures, c.plus-in-Some-2.ensures, c.plus-in-Some.ensures, c.expression_nodes-weight.ensures, c.items_nodes-chosen.ensures, c.items_nodes-other.ensures)
    (sym (choose_else_nodes (entry c.args.table.now) (g.N.Names.tree c.args.names.now) c.args.operation c.args.item.now a.test a.chosen b.other a.other c.deref.result.now c.deref-in-Some.result.now a.is b.is c.deref.ensures.value c.deref-in-Some.ensures.value))

pub items_nodes-loop-item-init : goal.items_nodes-loop-item-init
items_nodes-loop-item-init g t c =
    begins _ (items_capped (entry c.args.table.now) (g.N.Names.tree c.args.names.now) c.args.operation c.args.all.now)
