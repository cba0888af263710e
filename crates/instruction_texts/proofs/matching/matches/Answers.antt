use Rattle.std.proofs.Common.{◌∙◌, Some, None, map, sym, arith}
use Rattle.asm_source.specs.Plain.{token_tree}
use Rattle.instruction_texts.specs.Lines.{given}
use Rattle.instruction_texts.proofs.Reading.{exact, no_front, all_taken, left_over}
use Rattle.instruction_texts.proofs.matching.matches.Goals as goal

pub returns-in_default : goal.returns-in_default
returns-in_default c =
    let e = no_front c.args.shapes.now (map token_tree c.args.line.now) c.shapes.shape-index (map given c.shapes.operands.items) c.shape-item.result (map token_tree c.shapes.rest.now) (omega arith) c.shape-item.is c.shapes.invariant c.in_default.ensures in
    record { exact = exact c.args.shapes.now (map token_tree c.args.line.now) None e }

pub returns-then-is_empty : goal.returns-then-is_empty
returns-then-is_empty c =
    let e = all_taken c.args.shapes.now (map token_tree c.args.line.now) c.shapes.shape-index (map given c.shapes.operands.items) c.shapes.rest.now (omega arith) (sym c.is_empty.ensures ∙ c.if-is_empty.true) c.shapes.invariant in
    record { exact = exact c.args.shapes.now (map token_tree c.args.line.now) (Some (map given c.shapes.operands.items)) e }

pub returns : goal.returns
returns c =
    let e = left_over c.args.shapes.now (map token_tree c.args.line.now) c.shapes.shape-index (map given c.shapes.operands.items) c.shapes.rest.now (omega arith) (sym c.is_empty.ensures ∙ c.if-is_empty.false) c.shapes.invariant in
    record { exact = exact c.args.shapes.now (map token_tree c.args.line.now) None e }
