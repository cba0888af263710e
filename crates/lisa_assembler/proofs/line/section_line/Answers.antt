use Rattle.std.proofs.Common.{◌++◌, ◌∷◌, [], ◌∙◌, ℕ, List, None, Some, inr, map, option_copied, sym, ap, subst}
use Rattle.std.proofs.lemmas.Result.{err_from_is_err_and}
use Rattle.asm_source.specs.Plain.{line_tree}
use Rattle.asm_source.specs.declared.flaw.SourceFault.TheVariants as faults
use Rattle.lisa_tree.specs.Descriptions.{description_tree}
use Rattle.lisa_object.specs.declared.parts.ObjectLine.TheVariants as lines
use Rattle.lisa_object.specs.Objects.{object_line_tree, Section}
use Rattle.lisa_assembler.specs.Faults.{IsFaultOf}
use Rattle.lisa_assembler.proofs.Finding.{named_is}
use Rattle.lisa_assembler.proofs.LineSteps.{section_missing, section_double, section_step}
use Rattle.lisa_assembler.proofs.Written.{pushed_one}
use Rattle.lisa_assembler.proofs.line.section_line.Goals as goal

pub returns-in-None-clause-fault : goal.returns-in-None-clause-fault
returns-in-None-clause-fault c = λ here names h inside.
    let d = description_tree c.args.tools.now.machine.now in
    let missing = named_is d c.args.tools.now.memories.all.now c.args.name.now (option_copied c.named.result) None c.requires.tools.memories c.named.ensures.found (ap option_copied c.in-None.is) in
    inr (subst (λ (n : List ℕ). IsFaultOf d here names (line_tree c.args.line.now) (faults.UnknownMemory c.args.line.now.line n)) (sym c.in_ok-name-in-None.ensures.cases)
    (section_missing d here names (line_tree c.args.line.now) c.args.name.now c.requires.part inside missing))

pub returns-in_err-begin_line-clause-fault : goal.returns-in_err-begin_line-clause-fault
returns-in_err-begin_line-clause-fault c = λ here names h inside.
    let d = description_tree c.args.tools.now.machine.now in
    let found = named_is d c.args.tools.now.memories.all.now c.args.name.now (option_copied c.named.result) (Some c.in-Some.memory.now) c.requires.tools.memories c.named.ensures.found (ap option_copied c.in-Some.is) in
    let p = err_from_is_err_and c.from_residual-in_err-begin_line.result c.from_residual-in_err-begin_line.ensures.1 in
    rw (p.1, p.2) (section_double d here names (line_tree c.args.line.now) c.args.name.now c.requires.part inside
    c.in-Some.memory.now found c.in_err-begin_line.field-0.0 (c.in_err-begin_line.ensures.fault names h))

pub returns-clause-section : goal.returns-clause-section
returns-clause-section c =
    named_is (description_tree c.args.tools.now.machine.now) c.args.tools.now.memories.all.now c.args.name.now (option_copied c.named.result) (Some c.in-Some.memory.now) c.requires.tools.memories c.named.ensures.found
    (ap option_copied c.in-Some.is)

pub returns-clause-held : goal.returns-clause-held
returns-clause-held c = λ names h. (c.in_ok-begin_line.ensures.new names h).1

pub returns-clause-step : goal.returns-clause-step
returns-clause-step c = λ here names h inside.
    let d = description_tree c.args.tools.now.machine.now in
    let m = c.in-Some.memory.now in
    let found = named_is d c.args.tools.now.memories.all.now c.args.name.now (option_copied c.named.result) (Some m) c.requires.tools.memories c.named.ensures.found (ap option_copied c.in-Some.is) in
    section_step d here names (line_tree c.args.line.now) c.args.name.now c.requires.part inside m found (c.in_ok-begin_line.ensures.new names h).0
    (map object_line_tree c.args.lines.now.items) (map object_line_tree c.begin_line.new.lines.items) (map object_line_tree c.push.new.self.items)
    c.in_ok-begin_line.ensures.added
    (pushed_one c.begin_line.new.lines.items c.push.new.self.items (lines.Section c.in_ok-name.name m.width) c.in_ok-push.ensures.items
    ∙ ap (λ (n : List ℕ). map object_line_tree c.begin_line.new.lines.items ++ Section n m.width ∷ []) c.in_ok-name.ensures.cases)
