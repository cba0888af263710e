use Rattle.std.proofs.Common.{map, sym, ◌∙◌, arith}
use Rattle.std.specs.Prelude.{option_map}
use Rattle.asm_source.specs.Plain.{token_tree}
use Rattle.instruction_texts.specs.Lines.{given}
use Rattle.instruction_texts.proofs.Taking.{none_taken, one_taken, misfits_here, whole_line, left_over}
use Rattle.instruction_texts.proofs.misfits.misfit.Goals as goal

pub shapes-init : goal.shapes-init
shapes-init c = none_taken (map token_tree c.args.line.now)

pub returns-in_default-clause-some : goal.returns-in_default-clause-some
returns-in_default-clause-some c =
    misfits_here c.args.shapes.now (map token_tree c.args.line.now) c.shapes.i c.index-shapes-i.result (map token_tree c.shapes.rest.now) c.shapes-test.true c.index-shapes-i.is c.shapes.invariant
    (sym c.in_default.ensures)

pub shapes-preserved : goal.shapes-preserved
shapes-preserved c =
    one_taken c.args.shapes.now (map token_tree c.args.line.now) c.shapes.i c.index-shapes-i.result (map token_tree c.shapes.rest.now) c.shapes-test.true c.index-shapes-i.is c.shapes.invariant
    (option_map given c.in-Some.field-0-0, map token_tree c.in-Some.behind.now)
    (sym c.in-Some.ensures)

pub returns-then-is_empty-clause-none : goal.returns-then-is_empty-clause-none
returns-then-is_empty-clause-none c =
    whole_line c.args.shapes.now (map token_tree c.args.line.now) c.shapes.i (omega arith) c.shapes.rest.now (sym c.is_empty.ensures ∙ c.if-is_empty.true) c.shapes.invariant

pub returns-else-is_empty-clause-some : goal.returns-else-is_empty-clause-some
returns-else-is_empty-clause-some c =
    left_over c.args.shapes.now (map token_tree c.args.line.now) c.shapes.i (omega arith) c.shapes.rest.now (sym c.is_empty.ensures ∙ c.if-is_empty.false) c.shapes.invariant
