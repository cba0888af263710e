use Rattle.std.proofs.lemmas.Result.{err_from_is_err_and}
use Rattle.hex_files.proofs.CellLoop.{missed}
use Rattle.hex_files.proofs.memh_reader.read_memh.Goals as goal

pub returns-in_err-cells : goal.returns-in_err-cells
returns-in_err-cells c =
    let p = err_from_is_err_and c.from_residual.result c.from_residual.ensures.1 in
    rw (p.1, p.2) (missed c.in_err-cells.field-0.0 _ c.in_err-cells.ensures)
