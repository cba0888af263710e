use Rattle.std.proofs.Common.{◌≡◌, sym, ap, ◌∙◌, Some}
use Rattle.std.specs.Fmt.{decimal}
use Rattle.lisa_words.proofs.Readings.{written_decimal, unlike}
use Rattle.lisa_words.proofs.numerals.canonical_decimal.Goals as goal

pub returns-in_err-value-clause-found : goal.returns-in_err-value-clause-found
returns-in_err-value-clause-found c n small is = absurd (c.in_err-value.ensures (written_decimal n c.args.text.now small is).0)

pub returns-then-eq-clause-found : goal.returns-then-eq-clause-found
returns-then-eq-clause-found c n small is = ap Some (c.in_ok-value.ensures.1 ∙ (written_decimal n c.args.text.now small is).1)

pub returns-else-eq-clause-found : goal.returns-else-eq-clause-found
returns-else-eq-clause-found c n small is =
    let same : c.in_ok-value.value ≡ n = c.in_ok-value.ensures.1 ∙ (written_decimal n c.args.text.now small is).1 in
    absurd (unlike _ _ c.if-eq.ensures (c.decimal-count.ensures.digits ∙ ap (λ k. decimal k) same ∙ sym is))
