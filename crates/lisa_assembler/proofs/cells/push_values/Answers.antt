use Rattle.std.proofs.Common.{◌++◌, inr, map, arith}
use Rattle.std.proofs.lemmas.Result.{err_from_is_err_and}
use Rattle.asm_source.specs.Plain.{value_tree}
use Rattle.lisa_object.specs.Objects.{object_line_tree}
use Rattle.lisa_assembler.specs.Cells.{values_lines}
use Rattle.lisa_assembler.proofs.Ranges.{range_stops, range_on, fits_on, lines_on}
use Rattle.lisa_assembler.proofs.cells.push_values.Goals as goal

pub returns-in_err-check_value-clause-fault : goal.returns-in_err-check_value-clause-fault
returns-in_err-check_value-clause-fault c =
    let p = err_from_is_err_and c.from_residual.result c.from_residual.ensures.1 in
    rw (p.1, p.2) (inr (range_stops c.args.line c.args.width c.args.values.now c.loop-value.value-index c.value-item.result (omega arith) c.value-item.is
    c.in_err-check_value.field-0.0 c.loop-value.invariant.2 c.in_err-check_value.ensures.fault))

pub loop-value-preserved : goal.loop-value-preserved
loop-value-preserved c = (
  lines_on c.args.line c.args.width c.args.values.now c.loop-value.value-index c.value-item.result (omega arith) c.value-item.is
      (map object_line_tree c.args.lines.now.items ++ values_lines c.args.width (map value_tree c.args.values.now)) (map object_line_tree c.loop-value.lines.items) (map object_line_tree c.push_value.new.lines.items)
      c.in_ok-push_value.ensures c.loop-value.invariant.0,
  fits_on c.args.line c.args.width c.args.values.now c.loop-value.value-index c.value-item.result (omega arith) c.value-item.is c.in_ok-check_value.ensures.fits c.loop-value.invariant.1,
  range_on c.args.line c.args.width c.args.values.now c.loop-value.value-index c.value-item.result (omega arith) c.value-item.is c.in_ok-check_value.ensures.fits c.loop-value.invariant.2,
)
