use Rattle.std.proofs.Common.{List, None, Some, sym, subst, inr}
use Rattle.lisa_tree.specs.Descriptions.{description_tree}
use Rattle.pattern_tables.specs.declared.bit_pattern.BitPattern.{BitPattern}
use Rattle.form_patterns.specs.Instructions.{ArePatterns}
use Rattle.lisa_forms.proofs.Patterned.{first_overlap_is, overlap_verdict}
use Rattle.lisa_forms.proofs.coding.Coding.make.Goals as goal

pub with_patterns-requires-clause-none : goal.with_patterns-requires-clause-none
with_patterns-requires-clause-none c =
    let d = description_tree c.args.machine.now in
    let f = c.args.forms.now in
    let stand = subst (λ (ps : List BitPattern). ArePatterns d f.width ps) (sym c.deref.ensures.value) c.in_ok-patterns.ensures in
    first_overlap_is d f c.deref.result.now c.plain.result.now None c.requires.forms stand c.plain.ensures.is c.in-None.ensures.overlap

pub returns-in_ok-fault-in-Some-clause-fault : goal.returns-in_ok-fault-in-Some-clause-fault
returns-in_ok-fault-in-Some-clause-fault c =
    let d = description_tree c.args.machine.now in
    let f = c.args.forms.now in
    let stand = subst (λ (ps : List BitPattern). ArePatterns d f.width ps) (sym c.deref.ensures.value) c.in_ok-patterns.ensures in
    let first = first_overlap_is d f c.deref.result.now c.plain.result.now (Some c.in-Some.found) c.requires.forms stand c.plain.ensures.is c.in-Some.ensures.overlap in
    inr (overlap_verdict d f c.in-Some.found c.deref.result.now c.plain.result.now c.in_ok-fault-in-Some.fault stand first c.in-Some.ensures.found c.in_ok-fault-in-Some.ensures)
