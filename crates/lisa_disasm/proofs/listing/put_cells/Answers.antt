use Rattle.std.proofs.Common.{◌+◌, ◌++◌, ◌∷◌, [], ℕ, get_or, arith}
use Rattle.lisa_engine.proofs.TraceTexts.{unless_none}
use Rattle.lisa_disasm.proofs.Putting.{unless_at, unless_whole, unless_early}
use Rattle.lisa_disasm.proofs.listing.put_cells.Goals as goal

pub loop-cell-init : goal.loop-cell-init
loop-cell-init g c = λ d line is syntax each. unless_none

pub returns-in_err-put_cell : goal.returns-in_err-put_cell
returns-in_err-put_cell g c = λ d line is syntax each.
    unless_early (λ (w : ℕ). line w ++ 10 ∷ []) _ (c.loop-cell.cell-index + 1) _ c.from_residual.ensures.1
    (unless_at (λ (w : ℕ). line w ++ 10 ∷ []) c.args.cells.now c.loop-cell.cell-index 0 (omega arith)
    (c.loop-cell.invariant d line is syntax each) (c.in_err-put_cell.ensures d (line (get_or c.args.cells.now c.loop-cell.cell-index 0)) is syntax (each (get_or c.args.cells.now c.loop-cell.cell-index 0))))

pub loop-cell-preserved : goal.loop-cell-preserved
loop-cell-preserved g c = λ d line is syntax each.
    unless_at (λ (w : ℕ). line w ++ 10 ∷ []) c.args.cells.now c.loop-cell.cell-index 0 (omega arith)
    (c.loop-cell.invariant d line is syntax each) (c.in_ok-put_cell.ensures d (line (get_or c.args.cells.now c.loop-cell.cell-index 0)) is syntax (each (get_or c.args.cells.now c.loop-cell.cell-index 0)))

pub returns : goal.returns
returns g c = λ d line is syntax each. unless_whole (λ (w : ℕ). line w ++ 10 ∷ []) _ c.loop-cell.cell-index (omega arith) (c.loop-cell.invariant d line is syntax each)
