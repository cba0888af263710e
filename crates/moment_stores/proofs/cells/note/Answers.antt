use Rattle.std.proofs.Common.{◌≡◌, ◌<◌, ℕ, false, sym, ◌∙◌, subst, arith, length}
use Rattle.std.specs.Vec.{vec_capacity}
use Rattle.moment_stores.specs.Rows.{rows, mark_at}
use Rattle.moment_stores.specs.Cells.{AreTracked}
use Rattle.moment_stores.proofs.CellLemmas.{has_room, noted_tracked, rows_count}
use Rattle.moment_stores.proofs.cells.note.Goals as goal

pub overflow_cast-index : goal.overflow_cast-index
overflow_cast-index c =
    let shape = c.requires.tracked.shape in
    let here : c.args.array < length c.args.arrays.now = omega (arith, c.requires.array, rows_count c.args.cells.now, shape.count) in
    omega (arith, c.requires.index, shape.depths c.args.array c.index-arrays-array.result here, c.index-arrays-array.element_fits.fits)

pub push_reserved-requires : goal.push_reserved-requires
push_reserved-requires c =
    let free : mark_at (rows c.args.marks.now) c.args.array c.args.index ≡ false = sym c.value_in.ensures ∙ c.if-value_in.false in
    let in_cells : c.args.array < length (rows c.args.cells.now) = omega (arith, c.requires.array, rows_count c.args.cells.now) in
    omega (arith, has_room c.args.arrays.now (rows c.args.cells.now) (rows c.args.marks.now) c.args.touches.now.items (vec_capacity c.args.touches.now) c.requires.tracked c.args.array c.args.index in_cells c.requires.index free, c.args.touches.now.ok.0)

pub returns-clause-tracked : goal.returns-clause-tracked
returns-clause-tracked c =
    let free : mark_at (rows c.args.marks.now) c.args.array c.args.index ≡ false = sym c.value_in.ensures ∙ c.if-value_in.false in
    let in_cells : c.args.array < length (rows c.args.cells.now) = omega (arith, c.requires.array, rows_count c.args.cells.now) in
    subst (λ (room : ℕ). AreTracked c.args.arrays.now (rows c.args.cells.now) (rows c.set_in.new.all) c.push_reserved.new.self.items room) (sym c.push_reserved.ensures.capacity)
    (noted_tracked c.args.arrays.now (rows c.args.cells.now) (rows c.args.marks.now) (rows c.set_in.new.all) c.args.touches.now.items c.push_reserved.new.self.items (vec_capacity c.args.touches.now)
    c.args.array c.args.index c.value_in-before.result c.requires.tracked in_cells c.requires.index free c.value_in-before.ensures c.set_in.ensures c.push_reserved.ensures.items).0

pub returns-clause-before : goal.returns-clause-before
returns-clause-before c =
    let free : mark_at (rows c.args.marks.now) c.args.array c.args.index ≡ false = sym c.value_in.ensures ∙ c.if-value_in.false in
    let in_cells : c.args.array < length (rows c.args.cells.now) = omega (arith, c.requires.array, rows_count c.args.cells.now) in
    (noted_tracked c.args.arrays.now (rows c.args.cells.now) (rows c.args.marks.now) (rows c.set_in.new.all) c.args.touches.now.items c.push_reserved.new.self.items (vec_capacity c.args.touches.now)
    c.args.array c.args.index c.value_in-before.result c.requires.tracked in_cells c.requires.index free c.value_in-before.ensures c.set_in.ensures c.push_reserved.ensures.items).1
