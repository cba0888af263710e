use Rattle.std.proofs.Common.{◌≡◌, ◌<◌, ◌≤◌, ◌+◌, List, drop, get_or, length, ap, ◌∙◌, arith}
use Rattle.std.specs.Prelude.{◌+ℤ◌}
use Rattle.std.proofs.lemmas.Int.{ints}
use Rattle.asm_source.specs.Plain.{sum_tree}
use Rattle.asm_source.specs.declared.parts.Term.{Term}
use Rattle.placed_programs.specs.Symbols.{term_value, terms_value}
use Rattle.object_links.proofs.Steps.{one_term}
use Rattle.lisa_linker.specs.Tables.{symbols_of}
use Rattle.lisa_linker.proofs.Shorts.{sum_terms}
use Rattle.lisa_linker.proofs.sums.sum_value.Goals as goal

pub each-preserved : goal.each-preserved
each-preserved c =
    let s = symbols_of c.args.values in
    let terms : List Term = c.args.sum.now.terms.items in
    let same : c.deref-term-items.result.now ≡ terms = c.deref-term-items.ensures.value in
    let item : c.term-item.result ≡ get_or terms c.each.term-index c.term-item.result = c.term-item.is ∙ ap (λ (xs : List Term). get_or xs c.each.term-index c.term-item.result) same in
    let within : c.each.term-index < length terms = omega (arith, ap (λ (xs : List Term). length xs) same, c.each-test.true) in
    let here : terms_value s c.args.address (drop c.each.term-index terms) ≡ term_value s c.args.address c.term-item.result +ℤ terms_value s c.args.address (drop (c.each.term-index + 1) terms) =
    ap (terms_value s c.args.address) (one_term terms c.each.term-index c.term-item.result within item) in
    let few : length terms ≤ 8 = sum_terms (sum_tree c.args.sum.now) c.requires.sum in
    let is = c.term_value-total.ensures.value in
    let low = c.term_value-total.ensures.short.0 in
    let high = c.term_value-total.ensures.short.1 in
    let so_far = c.each.invariant.0 in
    let least = c.each.invariant.1.0 in
    let most = c.each.invariant.1.1 in (
      omega (arith, ints, here, few, within, is, low, high, so_far, least, most, c.each.total-is),
      (
        omega (arith, ints, few, within, low, high, least, most, c.each.total-is),
        omega (arith, ints, few, within, low, high, least, most, c.each.total-is),
      ),
    )
