use Rattle.std.proofs.Common.{arith, []}
use Rattle.lisa_engine.specs.declared.parts.ArrayItem.{ArrayItem}
use Rattle.lisa_debug.proofs.tell.put_cell.Goals as goal

pub cell-requires-clause-index_in_range : goal.cell-requires-clause-index_in_range
cell-requires-clause-index_in_range g c =
    let shape = g.met.E.Engine.shaped c.args.engine.now in
    let any : ArrayItem = record { name = []; width = 0; depth = 0 } in
    omega (arith, shape.cells.depths c.args.array any c.requires.array, c.requires.index any)
