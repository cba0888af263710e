use Rattle.std.proofs.Common.{option_copied, ap, rules}
use Rattle.std.proofs.lemmas.Result.{err_from_is_err_and}
use Rattle.asm_source.specs.Plain.{part_tree}
use Rattle.lisa_tree.specs.Descriptions.{description_tree}
use Rattle.lisa_assembler.proofs.LineSteps.{section_kept}
use Rattle.lisa_assembler.proofs.line.assemble_line.Goals as goal

pub returns-in_err-memory-in-Section-default-clause-fault : goal.returns-in_err-memory-in-Section-default-clause-fault
returns-in_err-memory-in-Section-default-clause-fault c = λ names h.
    let p = err_from_is_err_and c.from_residual-in_err-memory-in-Section-default.result c.from_residual-in_err-memory-in-Section-default.ensures.1 in
    rw (p.1, p.2) (c.in_err-memory-in-Section-default.ensures.fault (option_copied c.args.here) names h (λ x. (let e = c.if-is_outside.ensures.1 x in absurd (cc e))))

pub returns-in_ok-memory-in-Section-default-clause-step : goal.returns-in_ok-memory-in-Section-default-clause-step
returns-in_ok-memory-in-Section-default-clause-step c = λ names h. c.in_ok-memory-in-Section-default.ensures.step (option_copied c.args.here) names h (λ x. (let e = c.if-is_outside.ensures.1 x in absurd (cc e)))

pub returns-in_err-code_line-in-Instruction-Some-clause-fault : goal.returns-in_err-code_line-in-Instruction-Some-clause-fault
returns-in_err-code_line-in-Instruction-Some-clause-fault c = λ names h.
    let p = err_from_is_err_and c.from_residual-in_err-code_line-in-Instruction-Some.result c.from_residual-in_err-code_line-in-Instruction-Some.ensures.1 in
    rw (p.1, p.2) (c.in_err-code_line-in-Instruction-Some.ensures.fault (option_copied c.args.here) names (ap option_copied c.in-Instruction-Some.is-1) h)

pub returns-in_ok-code_line-in-Instruction-Some-clause-step : goal.returns-in_ok-code_line-in-Instruction-Some-clause-step
returns-in_ok-code_line-in-Instruction-Some-clause-step c = λ names h.
    c.in_ok-code_line-in-Instruction-Some.ensures.step (option_copied c.args.here) names (ap option_copied c.in-Instruction-Some.is-1) h

pub returns-in_err-cells_line-in-Cells-Some-clause-fault : goal.returns-in_err-cells_line-in-Cells-Some-clause-fault
returns-in_err-cells_line-in-Cells-Some-clause-fault c = λ names h.
    let p = err_from_is_err_and c.from_residual-in_err-cells_line-in-Cells-Some.result c.from_residual-in_err-cells_line-in-Cells-Some.ensures.1 in
    rw (p.1, p.2) (c.in_err-cells_line-in-Cells-Some.ensures.fault (description_tree c.args.tools.now.machine.now) (option_copied c.args.here) names (ap option_copied c.in-Cells-Some.is-1) h)

pub returns-in_ok-cells_line-in-Cells-Some-clause-step : goal.returns-in_ok-cells_line-in-Cells-Some-clause-step
returns-in_ok-cells_line-in-Cells-Some-clause-step c = λ names h.
    c.in_ok-cells_line-in-Cells-Some.ensures.step (description_tree c.args.tools.now.machine.now) (option_copied c.args.here) names (ap option_copied c.in-Cells-Some.is-1) h

pub returns-in_err-plain_line-clause-fault : goal.returns-in_err-plain_line-clause-fault
returns-in_err-plain_line-clause-fault c = λ names h.
    let p = err_from_is_err_and c.from_residual.result c.from_residual.ensures.1 in
    rw (p.1, p.2) (c.in_err-plain_line.ensures.fault (description_tree c.args.tools.now.machine.now) (option_copied c.args.here) names h (λ x. (let e = c.if-is_outside.ensures.1 x in absurd (cc e))))

pub returns-then-is_plain-clause-section : goal.returns-then-is_plain-clause-section
returns-then-is_plain-clause-section c =
    section_kept (description_tree c.args.tools.now.machine.now) (option_copied c.args.here) (part_tree c.args.line.now.part) (c.if-is_plain.ensures (search rules))

pub returns-then-is_plain-clause-step : goal.returns-then-is_plain-clause-step
returns-then-is_plain-clause-step c = λ names h. c.in_ok-plain_line.ensures.step (description_tree c.args.tools.now.machine.now) (option_copied c.args.here) names h (λ x. (let e = c.if-is_outside.ensures.1 x in absurd (cc e)))
