use Rattle.std.proofs.Common.{ap, sym, ◌∙◌, ℕ, ◌<◌, arith, length}
use Rattle.std.specs.Global.{Vec}
use Rattle.std.specs.Vec.{vec_len}
use Rattle.verilog_clock.proofs.Cells.{len_at, lens_kept, row_copied, lens_same}
use Rattle.verilog_clock.proofs.writes.copy_rows.Goals as goal

pub copy_from_slice-requires : goal.copy_from_slice-requires
copy_from_slice-requires c =
    let in_now : c.each.place < length c.each.cells = omega (arith, lens_same c.each.cells c.args.from.now c.each.invariant.0, c.each-test.true) in
    ap (λ (v : Vec ℕ). vec_len v) (sym c.index-cells-place.is)
    ∙ len_at c.each.cells c.args.from.now c.each.place c.index-cells-place.result c.index-from-place.result c.each.invariant.0 in_now c.each-test.true c.index-cells-place.is c.index-from-place.is
    ∙ sym c.deref.ensures.len

pub each-preserved : goal.each-preserved
each-preserved c =
    let in_now : c.each.place < length c.each.cells = omega (arith, lens_same c.each.cells c.args.from.now c.each.invariant.0, c.each-test.true) in (
      lens_kept c.each.cells c.args.from.now c.each.place c.index-cells-place.result _ c.each.invariant.0 c.index-cells-place.is (c.copy_from_slice.ensures.len ∙ ap (λ (v : Vec ℕ). vec_len v) (sym c.index-cells-place.is)),
      row_copied c.each.cells c.args.from.now c.each.place c.index-from-place.result _ in_now c.each-test.true c.index-from-place.is (c.copy_from_slice.ensures.items ∙ c.deref.ensures.value) c.each.invariant.1,
    )
