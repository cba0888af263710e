use Rattle.std.proofs.Common.{◌∷◌, ◌++◌, ◌+◌, [], ℕ, List, length, map, option_copied, refl, ap, sym, ◌∙◌, arith}
use Rattle.std.specs.Str.Lines.{lines}
use Rattle.std.proofs.lemmas.Result.{err_from_is_err_and}
use Rattle.lisa_tree.specs.Descriptions.{description_tree}
use Rattle.asm_source.specs.Plain.{PlainLine, line_tree}
use Rattle.asm_source.specs.Source.{source_from, source_of}
use Rattle.asm_source.specs.Gives.{lines_with}
use Rattle.asm_source.proofs.LineLoop.{begins, goes_on, misses_on, all_read}
use Rattle.lisa_object.specs.Objects.{object_line_tree}
use Rattle.lisa_assembler.proofs.ReadOn.{nothing_so_far, next_so_far, missed_fault, line_fault, whole_object}
use Rattle.lisa_assembler.proofs.reading.assemble_bytes.Goals as goal

pub each-init : goal.each-init
unfolding source_of
each-init c = (
  tt,
  omega arith,
  (
    [],
    begins (source_from 1 (lines c.args.bytes.now)),
    rw c.new-own.ensures.items (nothing_so_far (description_tree c.args.tools.now.machine.now) c.new-seen.result (λ name. rw c.new-seen.ensures.empty refl)),
  ),
)

pub returns-in_err-line-clause-fault : goal.returns-in_err-line-clause-fault
returns-in_err-line-clause-fault c =
    let i = c.each.invariant.2 in
    let p = err_from_is_err_and c.from_residual.result c.from_residual.ensures.1 in
    let same = ap (λ (ls : List (List ℕ)). lines_with i.0 (source_from (c.each.number + 1) ls)) (sym c.in-Some.ensures.lines) ∙ i.1 in
    rw (p.1, p.2) (missed_fault (description_tree c.args.tools.now.machine.now) c.args.bytes.now c.in_err-line.field-0.0
    (misses_on i.0 (c.each.number + 1) c.in-Some.text.now (lines c.in-Some.after.now) c.in_err-line.field-0.0 _ c.in_err-line.ensures same))

pub returns-in-Err-clause-fault : goal.returns-in-Err-clause-fault
returns-in-Err-clause-fault c =
    let i = c.each.invariant.2 in
    let same = ap (λ (ls : List (List ℕ)). lines_with i.0 (source_from (c.each.number + 1) ls)) (sym c.in-Some.ensures.lines) ∙ i.1 in
    line_fault (description_tree c.args.tools.now.machine.now) c.args.bytes.now i.0 (line_tree c.in_ok-line.line) (option_copied c.each.here) c.each.seen (map object_line_tree c.each.own.items) c.in-Err.fault
    c.first_fault.result _ i.2 c.in-Err.ensures.fault (goes_on i.0 (c.each.number + 1) c.in-Some.text.now (lines c.in-Some.after.now) (line_tree c.in_ok-line.line) _ c.in_ok-line.ensures same) c.first_fault.ensures

pub each-preserved : goal.each-preserved
each-preserved c =
    let i = c.each.invariant.2 in
    let l : PlainLine = line_tree c.in_ok-line.line in
    let same = ap (λ (ls : List (List ℕ)). lines_with i.0 (source_from (c.each.number + 1) ls)) (sym c.in-Some.ensures.lines) ∙ i.1 in (
      c.in-Ok.ensures.words,
      omega (arith, c.each.invariant.1, ap length c.in-Some.ensures.lines),
      (
        i.0 ++ l ∷ [],
        goes_on i.0 (c.each.number + 1) c.in-Some.text.now (lines c.in-Some.after.now) l _ c.in_ok-line.ensures same,
        next_so_far (description_tree c.args.tools.now.machine.now) i.0 l (option_copied c.each.here) (option_copied c.in-Ok.next) c.each.seen c.assemble_line.new.seen (map object_line_tree c.each.own.items)
            (map object_line_tree c.assemble_line.new.lines.items) i.2 c.in-Ok.ensures.section c.in-Ok.ensures.held c.in-Ok.ensures.step,
      ),
    )

pub each-preserved-in-Ok : goal.each-preserved-in-Ok
each-preserved-in-Ok c =
    let i = c.each.invariant.2 in
    let l : PlainLine = line_tree c.in_ok-line.line in
    let same = ap (λ (ls : List (List ℕ)). lines_with i.0 (source_from (c.each.number + 1) ls)) (sym c.in-Some.ensures.lines) ∙ i.1 in (
      c.in-Ok.ensures.words,
      omega (arith, c.each.invariant.1, ap length c.in-Some.ensures.lines),
      (
        i.0 ++ l ∷ [],
        goes_on i.0 (c.each.number + 1) c.in-Some.text.now (lines c.in-Some.after.now) l _ c.in_ok-line.ensures same,
        next_so_far (description_tree c.args.tools.now.machine.now) i.0 l (option_copied c.each.here) (option_copied c.in-Ok.next) c.each.seen c.assemble_line.new.seen (map object_line_tree c.each.own.items)
            (map object_line_tree c.assemble_line.new.lines.items) i.2 c.in-Ok.ensures.section c.in-Ok.ensures.held c.in-Ok.ensures.step,
      ),
    )

pub each-preserved-in-Ok-2 : goal.each-preserved-in-Ok-2
each-preserved-in-Ok-2 c =
    let i = c.each.invariant.2 in
    let l : PlainLine = line_tree c.in_ok-line.line in
    let same = ap (λ (ls : List (List ℕ)). lines_with i.0 (source_from (c.each.number + 1) ls)) (sym c.in-Some.ensures.lines) ∙ i.1 in (
      c.in-Ok.ensures.words,
      omega (arith, c.each.invariant.1, ap length c.in-Some.ensures.lines),
      (
        i.0 ++ l ∷ [],
        goes_on i.0 (c.each.number + 1) c.in-Some.text.now (lines c.in-Some.after.now) l _ c.in_ok-line.ensures same,
        next_so_far (description_tree c.args.tools.now.machine.now) i.0 l (option_copied c.each.here) (option_copied c.in-Ok.next) c.each.seen c.assemble_line.new.seen (map object_line_tree c.each.own.items)
            (map object_line_tree c.assemble_line.new.lines.items) i.2 c.in-Ok.ensures.section c.in-Ok.ensures.held c.in-Ok.ensures.step,
      ),
    )

pub each-preserved-in-Ok-3 : goal.each-preserved-in-Ok-3
each-preserved-in-Ok-3 c =
    let i = c.each.invariant.2 in
    let l : PlainLine = line_tree c.in_ok-line.line in
    let same = ap (λ (ls : List (List ℕ)). lines_with i.0 (source_from (c.each.number + 1) ls)) (sym c.in-Some.ensures.lines) ∙ i.1 in (
      c.in-Ok.ensures.words,
      omega (arith, c.each.invariant.1, ap length c.in-Some.ensures.lines),
      (
        i.0 ++ l ∷ [],
        goes_on i.0 (c.each.number + 1) c.in-Some.text.now (lines c.in-Some.after.now) l _ c.in_ok-line.ensures same,
        next_so_far (description_tree c.args.tools.now.machine.now) i.0 l (option_copied c.each.here) (option_copied c.in-Ok.next) c.each.seen c.assemble_line.new.seen (map object_line_tree c.each.own.items)
            (map object_line_tree c.assemble_line.new.lines.items) i.2 c.in-Ok.ensures.section c.in-Ok.ensures.held c.in-Ok.ensures.step,
      ),
    )

pub each-preserved-in-Ok-4 : goal.each-preserved-in-Ok-4
each-preserved-in-Ok-4 c =
    let i = c.each.invariant.2 in
    let l : PlainLine = line_tree c.in_ok-line.line in
    let same = ap (λ (ls : List (List ℕ)). lines_with i.0 (source_from (c.each.number + 1) ls)) (sym c.in-Some.ensures.lines) ∙ i.1 in (
      c.in-Ok.ensures.words,
      omega (arith, c.each.invariant.1, ap length c.in-Some.ensures.lines),
      (
        i.0 ++ l ∷ [],
        goes_on i.0 (c.each.number + 1) c.in-Some.text.now (lines c.in-Some.after.now) l _ c.in_ok-line.ensures same,
        next_so_far (description_tree c.args.tools.now.machine.now) i.0 l (option_copied c.each.here) (option_copied c.in-Ok.next) c.each.seen c.assemble_line.new.seen (map object_line_tree c.each.own.items)
            (map object_line_tree c.assemble_line.new.lines.items) i.2 c.in-Ok.ensures.section c.in-Ok.ensures.held c.in-Ok.ensures.step,
      ),
    )

pub each-preserved-in-Ok-5 : goal.each-preserved-in-Ok-5
each-preserved-in-Ok-5 c =
    let i = c.each.invariant.2 in
    let l : PlainLine = line_tree c.in_ok-line.line in
    let same = ap (λ (ls : List (List ℕ)). lines_with i.0 (source_from (c.each.number + 1) ls)) (sym c.in-Some.ensures.lines) ∙ i.1 in (
      c.in-Ok.ensures.words,
      omega (arith, c.each.invariant.1, ap length c.in-Some.ensures.lines),
      (
        i.0 ++ l ∷ [],
        goes_on i.0 (c.each.number + 1) c.in-Some.text.now (lines c.in-Some.after.now) l _ c.in_ok-line.ensures same,
        next_so_far (description_tree c.args.tools.now.machine.now) i.0 l (option_copied c.each.here) (option_copied c.in-Ok.next) c.each.seen c.assemble_line.new.seen (map object_line_tree c.each.own.items)
            (map object_line_tree c.assemble_line.new.lines.items) i.2 c.in-Ok.ensures.section c.in-Ok.ensures.held c.in-Ok.ensures.step,
      ),
    )

pub returns-clause-object : goal.returns-clause-object
returns-clause-object c =
    let i = c.each.invariant.2 in
    let same = ap (λ (ls : List (List ℕ)). lines_with i.0 (source_from (c.each.number + 1) ls)) (sym c.in_default.ensures.lines) ∙ i.1 in
    whole_object (description_tree c.args.tools.now.machine.now) c.args.bytes.now i.0 (all_read i.0 (c.each.number + 1) _ same) (option_copied c.each.here) c.each.seen (map object_line_tree c.each.own.items)
    c.args.digest c.requires.digest i.2
