use Rattle.std.proofs.Common.{◌<◌, length, refl, rules}
use Rattle.behavior_plans.proofs.Cells.{cell_left}
use Rattle.behavior_plans.proofs.writing.set_cell.Goals as goal

pub returns : goal.returns
returns c =
    let there : c.args.array < length c.args.store.now.cells.items = search rules in
    let within : c.args.index < length c.index.result.now.items = search rules in
    cell_left c.args.store.now _ c.args.array c.args.index c.args.bits c.index.result.now c.index_mut.result.now c.index-2.result.now _ _ there within
    refl refl refl refl refl refl refl refl refl c.index.ensures c.index_mut.ensures.value c.index-2.ensures refl refl refl refl c.index-before.ensures c.note.ensures.noted c.note.ensures.full c.note.ensures.count c.note.ensures.room
