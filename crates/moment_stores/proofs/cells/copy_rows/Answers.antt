use Rattle.std.proofs.Common.{◌≡◌, ◌<◌, ℕ, arith, length, sym, ap, ◌∙◌}
use Rattle.std.specs.Global.{Vec}
use Rattle.std.specs.Vec.{vec_len}
use Rattle.moment_stores.specs.Rows.{rows}
use Rattle.moment_stores.proofs.CellLemmas.{same_len, copied_row, lens_count, rows_count}
use Rattle.moment_stores.proofs.cells.copy_rows.Goals as goal

pub copy_from_slice-requires : goal.copy_from_slice-requires
copy_from_slice-requires c =
    let count = lens_count (rows c.each.cells) (rows c.args.from.now) c.each.invariant.0 in
    let in_now : c.each.place < length c.each.cells = omega (arith, count, rows_count c.each.cells, rows_count c.args.from.now, c.each-test.true) in
    let v = c.index-cells-place.result in
    let w = c.index-from-place.result in
    let long : vec_len v ≡ length v.items = v.ok.0 in
    let other : vec_len w ≡ length w.items = w.ok.0 in
    ap (λ (x : Vec ℕ). vec_len x) (sym c.index-cells-place.is) ∙ long
    ∙ same_len c.each.cells c.args.from.now c.each.place v w c.each.invariant.0 in_now c.each-test.true c.index-cells-place.is c.index-from-place.is
    ∙ sym other ∙ sym c.deref.ensures.len

pub each-preserved : goal.each-preserved
each-preserved c =
    let count = lens_count (rows c.each.cells) (rows c.args.from.now) c.each.invariant.0 in
    let in_now : c.each.place < length c.each.cells = omega (arith, count, rows_count c.each.cells, rows_count c.args.from.now, c.each-test.true) in
    copied_row c.each.cells c.args.from.now c.each.place c.index-cells-place.result c.index-from-place.result _ in_now c.each-test.true c.index-cells-place.is c.index-from-place.is
    (c.copy_from_slice.ensures.items ∙ c.deref.ensures.value) c.each.invariant.0 c.each.invariant.1
