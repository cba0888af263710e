use Rattle.std.proofs.Common.{◌∷◌, ◌++◌, ◌+◌, [], ℕ, List, length, refl, inl, inr, ap, sym, ◌∙◌, arith}
use Rattle.std.specs.Str.Lines.{lines}
use Rattle.asm_source.specs.Plain.{line_tree}
use Rattle.asm_source.specs.Source.{source_from, source_of}
use Rattle.asm_source.specs.Gives.{lines_with}
use Rattle.asm_source.proofs.LineLoop.{begins, goes_on, misses_on, all_read}
use Rattle.lisa_assembler.proofs.reading.first_fault.Goals as goal

pub each-init : goal.each-init
unfolding source_of
each-init c = (refl, omega arith, ([], begins (source_from 1 (lines c.args.bytes.now))))

pub returns-in-Err : goal.returns-in-Err
returns-in-Err c =
    let i = c.each.invariant.2 in
    let same = ap (λ (ls : List (List ℕ)). lines_with i.0 (source_from (c.each.number + 1) ls)) (sym c.in-Some.ensures.lines) ∙ i.1 in
    inl (misses_on i.0 (c.each.number + 1) c.in-Some.text.now (lines c.in-Some.after.now) c.in-Err.unread _ c.in-Err.ensures same)

pub each-preserved : goal.each-preserved
each-preserved c =
    let i = c.each.invariant.2 in
    let same = ap (λ (ls : List (List ℕ)). lines_with i.0 (source_from (c.each.number + 1) ls)) (sym c.in-Some.ensures.lines) ∙ i.1 in (
      c.each.invariant.0,
      omega (arith, c.each.invariant.1, ap length c.in-Some.ensures.lines),
      (i.0 ++ line_tree c.in-Ok.line ∷ [], goes_on i.0 (c.each.number + 1) c.in-Some.text.now (lines c.in-Some.after.now) (line_tree c.in-Ok.line) _ c.in-Ok.ensures same),
    )

pub returns : goal.returns
returns c =
    let i = c.each.invariant.2 in
    let same = ap (λ (ls : List (List ℕ)). lines_with i.0 (source_from (c.each.number + 1) ls)) (sym c.in_default.ensures.lines) ∙ i.1 in
    inr (i.0, all_read i.0 (c.each.number + 1) _ same, c.each.invariant.0)
