use Rattle.std.proofs.Common.{map}
use Rattle.std.proofs.lemmas.Result.{err_from_is_err_and}
use Rattle.asm_source.specs.Plain.{line_tree}
use Rattle.lisa_object.specs.Objects.{object_line_tree}
use Rattle.lisa_assembler.proofs.LineSteps.{plain_double, plain_step}
use Rattle.lisa_assembler.proofs.line.plain_line.Goals as goal

pub returns-in_err-begin_line-clause-fault : goal.returns-in_err-begin_line-clause-fault
returns-in_err-begin_line-clause-fault c = λ d here names h inside.
    let p = err_from_is_err_and c.from_residual.result c.from_residual.ensures.1 in
    rw (p.1, p.2) (plain_double d here names (line_tree c.args.line.now) c.requires inside c.in_err-begin_line.field-0.0 (c.in_err-begin_line.ensures.fault names h))

pub returns-clause-held : goal.returns-clause-held
returns-clause-held c = λ names h. (c.in_ok-begin_line.ensures.new names h).1

pub returns-clause-step : goal.returns-clause-step
returns-clause-step c = λ d here names h inside.
    plain_step d here names (line_tree c.args.line.now) c.requires inside (c.in_ok-begin_line.ensures.new names h).0
    (map object_line_tree c.args.lines.now.items) (map object_line_tree c.begin_line.new.lines.items) (map object_line_tree c.push_plain.new.lines.items)
    c.in_ok-begin_line.ensures.added c.in_ok-push_plain.ensures
