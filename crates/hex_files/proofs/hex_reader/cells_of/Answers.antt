use Rattle.std.proofs.Common.{ℕ, ◌<◌, map, sym, ap, ◌∙◌, arith}
use Rattle.std.proofs.lemmas.Bool.{eqb-true}
use Rattle.hex_files.specs.HexText.{pieces}
use Rattle.hex_files.specs.Before.{unless}
use Rattle.hex_files.specs.HexReading.{first_wide, little}
use Rattle.hex_files.proofs.WordLoops.{is_some}
use Rattle.hex_files.proofs.RecordLoops.{taken, dropped}
use Rattle.hex_files.proofs.CellPieces.{cells_begin, cell_read, cell_wide, cells_done}
use Rattle.hex_files.proofs.hex_reader.cells_of.Goals as goal

pub cells-init : goal.cells-init
cells-init c =
    cells_begin c.args.width _ c.new-cells.result.items c.args.bytes.now c.new-cells.ensures.items
    ∙ ap (λ (k : ℕ). unless (first_wide c.args.width 0 (map little (pieces k c.args.bytes.now))) (map little (pieces k c.args.bytes.now))) c.byte_count-count.ensures.value

pub returns-then-is_empty : goal.returns-then-is_empty
returns-then-is_empty c =
    let sized : 0 < c.byte_count-count.result = let e = c.byte_count-count.ensures.value in let s = c.requires.some in omega (arith, e, s) in
    cells_done c.args.width c.byte_count-count.result c.cells.cells.items c.cells.rest.now _ c.cells.invariant sized (eqb-true _ _ (sym c.is_empty.ensures ∙ c.if-is_empty.true))

pub returns-then-not-fits : goal.returns-then-not-fits
returns-then-not-fits c =
    let sized : 0 < c.byte_count-count.result = let e = c.byte_count-count.ensures.value in let s = c.requires.some in omega (arith, e, s) in
    rw (c.as_slice.ensures.value, c.from.ensures)
    (cell_wide c.args.width c.byte_count-count.result c.cells.cells.items c.cells.rest.now _ c.cells.invariant sized c.split_at.result.0.now c.little-cell.result (is_some c.cells.rest.now (sym c.is_empty.ensures ∙ c.if-is_empty.false))
    (c.split_at.ensures.front ∙ taken c.byte_count-count.result c.at_most-size.result c.cells.rest.now c.at_most-size.ensures.value) c.little-cell.ensures.value (sym c.fits.ensures ∙ c.if-not-fits.true))

pub cells-preserved : goal.cells-preserved
cells-preserved c =
    let sized : 0 < c.byte_count-count.result = let e = c.byte_count-count.ensures.value in let s = c.requires.some in omega (arith, e, s) in
    cell_read c.args.width c.byte_count-count.result c.cells.cells.items c.cells.rest.now _ c.cells.invariant sized c.split_at.result.0.now c.split_at.result.1.now _ c.little-cell.result (is_some c.cells.rest.now (sym c.is_empty.ensures ∙ c.if-is_empty.false))
    (c.split_at.ensures.front ∙ taken c.byte_count-count.result c.at_most-size.result c.cells.rest.now c.at_most-size.ensures.value) (c.split_at.ensures.back ∙ dropped c.byte_count-count.result c.at_most-size.result c.cells.rest.now c.at_most-size.ensures.value)
    c.little-cell.ensures.value (sym c.fits.ensures ∙ c.if-not-fits.false) c.in_ok-push.ensures.items
