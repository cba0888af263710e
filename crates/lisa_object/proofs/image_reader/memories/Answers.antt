use Rattle.std.proofs.Common.{◌≡◌, ◌∷◌, [], length, true, false, Some, None, refl, sym, ap, ◌∙◌, arith}
use Rattle.std.specs.Prelude.{codes}
use Rattle.std.specs.Str.{bytes_eq}
use Rattle.std.specs.Option.{option_copied}
use Rattle.std.proofs.lemmas.Result.{err_from_is_err_and}
use Rattle.text_lines.specs.Cuts.{parts_behind}
use Rattle.lisa_object.specs.Reading.{is_last}
use Rattle.lisa_object.proofs.MemoryLoop.{starts, lacking, at_end, fails, goes_on, memory_shrinks}
use Rattle.lisa_object.proofs.image_reader.memories.Goals as goal

pub each-init : goal.each-init
each-init c = (omega arith, ([], (λ name. rw c.new-seen.ensures.empty refl), rw c.new-all.ensures.items (starts (parts_behind 10 (option_copied c.args.left)))))

pub returns-in_default : goal.returns-in_default
returns-in_default c = lacking _ _ _ _ _ c.each.invariant.1.2 (ap (λ o. parts_behind 10 (option_copied o)) c.in_default.is)

pub returns-then-is_last : goal.returns-then-is_last
returns-then-is_last c =
    let first : parts_behind 10 (option_copied c.each.rest) ≡ c.cut.result.0.now ∷ parts_behind 10 (option_copied c.cut.result.1) = ap (λ o. parts_behind 10 (option_copied o)) c.in-Some.is ∙ c.cut.ensures.parts in
    let last : is_last (parts_behind 10 (option_copied c.cut.result.1)) ≡ true = sym c.is_last.ensures ∙ c.if-is_last.true in
    rw last at (at_end _ _ _ _ _ c.each.invariant.1.2 _ _ first (sym c.is_end.ensures ∙ c.if-is_end.true))

pub returns-else-is_last : goal.returns-else-is_last
returns-else-is_last c =
    let first : parts_behind 10 (option_copied c.each.rest) ≡ c.cut.result.0.now ∷ parts_behind 10 (option_copied c.cut.result.1) = ap (λ o. parts_behind 10 (option_copied o)) c.in-Some.is ∙ c.cut.ensures.parts in
    let last : is_last (parts_behind 10 (option_copied c.cut.result.1)) ≡ false = sym c.is_last.ensures ∙ c.if-is_last.false in
    rw last at (at_end _ _ _ _ _ c.each.invariant.1.2 _ _ first (sym c.is_end.ensures ∙ c.if-is_end.true))

pub returns-in_err-memory : goal.returns-in_err-memory
returns-in_err-memory c =
    let p = err_from_is_err_and c.from_residual.result c.from_residual.ensures.1 in
    let first : parts_behind 10 (option_copied c.each.rest) ≡ c.cut.result.0.now ∷ parts_behind 10 (option_copied c.cut.result.1) = ap (λ o. parts_behind 10 (option_copied o)) c.in-Some.is ∙ c.cut.ensures.parts in
    rw (p.1, p.2) (fails _ _ _ _ _ c.each.invariant.1.2 _ _ first c.in_err-memory.field-0.0 (sym c.is_end.ensures ∙ c.if-is_end.false) (c.in_err-memory.ensures.exact c.each.invariant.1.0 c.each.invariant.1.1))

pub each-smaller : goal.each-smaller
each-smaller c =
    let first : parts_behind 10 (option_copied c.each.rest) ≡ c.cut.result.0.now ∷ parts_behind 10 (option_copied c.cut.result.1) = ap (λ o. parts_behind 10 (option_copied o)) c.in-Some.is ∙ c.cut.ensures.parts in
    let less = memory_shrinks _ _ _ _ _ _ (c.in_ok-memory.ensures.exact c.each.invariant.1.0 c.each.invariant.1.1) in
    omega (arith, ap length first, less)

pub each-preserved : goal.each-preserved
each-preserved c =
    let first : parts_behind 10 (option_copied c.each.rest) ≡ c.cut.result.0.now ∷ parts_behind 10 (option_copied c.cut.result.1) = ap (λ o. parts_behind 10 (option_copied o)) c.in-Some.is ∙ c.cut.ensures.parts in
    let there = c.in_ok-memory.ensures.exact c.each.invariant.1.0 c.each.invariant.1.1 in
    let more = goes_on _ _ _ _ _ c.each.invariant.1.2 _ _ first c.in_ok-memory.memory _ (sym c.is_end.ensures ∙ c.if-is_end.false) there (memory_shrinks _ _ _ _ _ _ there) in
    (c.in_ok-memory.ensures.total.1, (c.in_ok-memory.memory.name ∷ c.each.invariant.1.0, c.in_ok-memory.ensures.seen c.each.invariant.1.0 c.each.invariant.1.1, rw (c.in_ok-push.ensures.items, c.in_ok-memory.ensures.total.0) more))
