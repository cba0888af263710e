use Rattle.std.proofs.Common.{map}
use Rattle.std.proofs.lemmas.Result.{err_from_is_err_and}
use Rattle.asm_source.specs.Plain.{value_tree, line_tree}
use Rattle.lisa_object.specs.Objects.{object_line_tree}
use Rattle.lisa_assembler.proofs.LineSteps.{cells_double, cells_range, cells_step}
use Rattle.lisa_assembler.proofs.line.cells_line.Goals as goal

pub returns-in_err-begin_line-clause-fault : goal.returns-in_err-begin_line-clause-fault
returns-in_err-begin_line-clause-fault c = λ d here names at h.
    let p = err_from_is_err_and c.from_residual.result c.from_residual.ensures.1 in
    rw (p.1, p.2) (cells_double d here c.args.memory.now at names (line_tree c.args.line.now) (map value_tree c.args.values.now) c.requires.part
    c.in_err-begin_line.field-0.0 (c.in_err-begin_line.ensures.fault names h))

pub returns-in_err-push_values-clause-fault : goal.returns-in_err-push_values-clause-fault
returns-in_err-push_values-clause-fault c = λ d here names at h.
    let p = err_from_is_err_and c.from_residual-in_err-push_values.result c.from_residual-in_err-push_values.ensures.1 in
    rw (p.1, p.2) (cells_range d here c.args.memory.now at names (line_tree c.args.line.now) (map value_tree c.args.values.now) c.requires.part
    (c.in_ok-begin_line.ensures.new names h).0 c.in_err-push_values.field-0.0 c.in_err-push_values.ensures.fault)

pub returns-clause-held : goal.returns-clause-held
returns-clause-held c = λ names h. (c.in_ok-begin_line.ensures.new names h).1

pub returns-clause-step : goal.returns-clause-step
returns-clause-step c = λ d here names at h.
    cells_step d here c.args.memory.now at names (line_tree c.args.line.now) (map value_tree c.args.values.now) c.requires.part
    (c.in_ok-begin_line.ensures.new names h).0 c.in_ok-push_values.ensures.fits
    (map object_line_tree c.args.lines.now.items) (map object_line_tree c.begin_line.new.lines.items) (map object_line_tree c.push_values.new.lines.items)
    c.in_ok-begin_line.ensures.added c.in_ok-push_values.ensures.added
