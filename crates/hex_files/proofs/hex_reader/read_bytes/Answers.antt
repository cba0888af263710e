use Rattle.std.proofs.Common.{◌+◌, Some, length, ap, ◌∙◌, arith}
use Rattle.std.specs.Str.Lines.{lines}
use Rattle.std.proofs.lemmas.Result.{err_from_is_err_and}
use Rattle.hex_files.specs.HexMachine.{writes_from}
use Rattle.hex_files.specs.HexGives.{values_in}
use Rattle.hex_files.proofs.HexRules.{lines_agree}
use Rattle.hex_files.proofs.LineSteps.{first_line, line_read, line_missed, all_lines, no_end}
use Rattle.hex_files.proofs.hex_reader.read_bytes.Goals as goal

pub lines-init : goal.lines-init
lines-init c = (first_line c.new-values.result.items (writes_from c.args.size 1 (Some 0) (lines c.args.bytes.now)) c.new-values.ensures.items ∙ ap values_in (lines_agree c.args.size (lines c.args.bytes.now)), omega arith, omega arith)

pub returns-in_err-after : goal.returns-in_err-after
returns-in_err-after c =
    let p = err_from_is_err_and c.from_residual.result c.from_residual.ensures.1 in
    rw (p.1, p.2)
    (line_missed c.args.size (c.lines.line + 1) c.lines.base c.lines.values.items (lines c.lines.rest.now) _ c.lines.invariant.0 c.in-Some.text.now (lines c.in-Some.behind.now) c.in_err-after.field-0.0 c.in-Some.ensures.lines c.in_err-after.ensures.exact)

pub lines-preserved : goal.lines-preserved
lines-preserved c = (
  line_read c.args.size (c.lines.line + 1) c.lines.base c.lines.values.items (lines c.lines.rest.now) _ c.lines.invariant.0 c.in-Some.text.now (lines c.in-Some.behind.now) c.in_ok-after.ensures.exact.0 c.in_ok-after.after _ c.in-Some.ensures.lines
      c.in_ok-after.ensures.exact.1 c.in_ok-after.ensures.exact.2,
  omega (arith, c.lines.invariant.1, ap length c.in-Some.ensures.lines),
  c.in_ok-after.ensures.small,
)

pub returns-in-None : goal.returns-in-None
returns-in-None c = all_lines c.args.size (c.lines.line + 1) c.lines.base c.lines.values.items (lines c.lines.rest.now) _ c.lines.invariant.0 c.in_default.ensures.lines c.in-None.is

pub returns-in-Some-base : goal.returns-in-Some-base
returns-in-Some-base c = no_end c.args.size (c.lines.line + 1) c.lines.base c.lines.values.items (lines c.lines.rest.now) _ c.lines.invariant.0 c.in-Some-base.field-0 c.in_default.ensures.lines c.in-Some-base.is
