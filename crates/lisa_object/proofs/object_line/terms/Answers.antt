use Rattle.std.proofs.Common.{◌≡◌, List, ◌∷◌, length, Some, refl, sym, ap, ◌∙◌, arith}
use Rattle.std.specs.Option.{option_copied}
use Rattle.std.proofs.lemmas.Result.{err_from_is_err_and}
use Rattle.text_lines.specs.Cuts.{parts_behind}
use Rattle.asm_source.specs.declared.parts.Term.{Term}
use Rattle.lisa_object.specs.ObjectReading.{terms_of}
use Rattle.lisa_object.proofs.TermLoop.{terms_with, begins, whole, goes_on, fails}
use Rattle.lisa_object.proofs.object_line.terms.Goals as goal

pub each-init : goal.each-init
each-init c = ap (λ (l : List Term). terms_with l (terms_of (parts_behind 32 (option_copied c.args.left)))) c.new-all.ensures.items ∙ begins (terms_of (parts_behind 32 (option_copied c.args.left)))

pub returns-in_err-term : goal.returns-in_err-term
returns-in_err-term c =
    let p = err_from_is_err_and c.from_residual.result c.from_residual.ensures.1 in
    let first : parts_behind 32 (option_copied c.each.rest) ≡ c.cut.result.0.now ∷ parts_behind 32 (option_copied c.cut.result.1) = ap (λ o. parts_behind 32 (option_copied o)) c.in-Some.is ∙ c.cut.ensures.parts in
    rw (p.1, p.2) (fails c.each.all.items _ _ c.each.invariant _ _ first c.in_err-term.field-0.0 c.in_err-term.ensures)

pub each-preserved : goal.each-preserved
each-preserved c =
    let first : parts_behind 32 (option_copied c.each.rest) ≡ c.cut.result.0.now ∷ parts_behind 32 (option_copied c.cut.result.1) = ap (λ o. parts_behind 32 (option_copied o)) c.in-Some.is ∙ c.cut.ensures.parts in
    rw c.in_ok-push.ensures.items (goes_on c.each.all.items _ _ c.each.invariant _ _ first c.in_ok-term.field-0 c.in_ok-term.ensures)

pub each-smaller : goal.each-smaller
each-smaller c =
    let first : parts_behind 32 (option_copied c.each.rest) ≡ c.cut.result.0.now ∷ parts_behind 32 (option_copied c.cut.result.1) = ap (λ o. parts_behind 32 (option_copied o)) c.in-Some.is ∙ c.cut.ensures.parts in
    omega (arith, ap length first)

pub returns : goal.returns
returns c = whole c.each.all.items _ _ c.each.invariant (ap (λ o. parts_behind 32 (option_copied o)) c.in_default.is)
