use Rattle.std.proofs.Common.{map, rules}
use Rattle.std.proofs.lemmas.Result.{err_from_is_err_and}
use Rattle.lisa_tree.specs.Descriptions.{description_tree}
use Rattle.asm_source.specs.Plain.{line_tree, token_tree}
use Rattle.instruction_texts.specs.Lines.{given}
use Rattle.lisa_object.specs.Objects.{object_line_tree}
use Rattle.lisa_assembler.proofs.Known.{read_values}
use Rattle.lisa_assembler.proofs.LineSteps.{read_of, text_fault, code_double, code_step}
use Rattle.lisa_assembler.proofs.line.code_line.Goals as goal

pub returns-in_err-matched-clause-fault : goal.returns-in_err-matched-clause-fault
returns-in_err-matched-clause-fault c = λ here names at h.
    let p = err_from_is_err_and c.from_residual.result c.from_residual.ensures.1 in
    rw (p.1, p.2) (text_fault (description_tree c.args.tools.now.machine.now) here c.args.memory.now at names (line_tree c.args.line.now) (map token_tree c.args.tokens.now) c.requires.part
    (c.if-not-holds_instructions.ensures.0 (search rules)) c.in_err-matched.field-0.0 c.in_err-matched.ensures.fault)

pub returns-in_err-begin_line-clause-fault : goal.returns-in_err-begin_line-clause-fault
returns-in_err-begin_line-clause-fault c = λ here names at h.
    let p = err_from_is_err_and c.from_residual-in_err-begin_line.result c.from_residual-in_err-begin_line.ensures.1 in
    rw (p.1, p.2) (code_double (description_tree c.args.tools.now.machine.now) here c.args.memory.now at names (line_tree c.args.line.now) (map token_tree c.args.tokens.now) c.requires.part
    (c.if-not-holds_instructions.ensures.0 (search rules)) c.in_ok-matched.matched c.in_ok-matched.ensures.read c.in_err-begin_line.field-0.0 (c.in_err-begin_line.ensures.fault names h))

pub push_coded-requires-clause-values : goal.push_coded-requires-clause-values
push_coded-requires-clause-values c =
    let d = description_tree c.args.tools.now.machine.now in
    let ts = map token_tree c.args.tokens.now in
    read_values d c.args.tools.now.syntax.now c.requires.tools.syntax c.in_ok-matched.matched.form (map given c.in_ok-matched.matched.operands.items) ts (read_of d ts c.in_ok-matched.matched c.in_ok-matched.ensures.read)

pub returns-in-Ok-clause-held : goal.returns-in-Ok-clause-held
returns-in-Ok-clause-held c = λ names h. (c.in_ok-begin_line.ensures.new names h).1

pub returns-in-Ok-clause-step : goal.returns-in-Ok-clause-step
returns-in-Ok-clause-step c = λ here names at h.
    code_step (description_tree c.args.tools.now.machine.now) here c.args.memory.now at names (line_tree c.args.line.now) (map token_tree c.args.tokens.now) c.requires.part
    (c.if-not-holds_instructions.ensures.0 (search rules)) c.in_ok-matched.matched c.in_ok-matched.ensures.read (c.in_ok-begin_line.ensures.new names h).0
    (map object_line_tree c.args.lines.now.items) (map object_line_tree c.begin_line.new.lines.items) (map object_line_tree c.push_coded.new.lines.items)
    c.in_ok-begin_line.ensures.added c.in-Ok.ensures
