use Rattle.std.proofs.Common.{arith, ◌∙◌, sym}
use Rattle.std.proofs.lemmas.Bool.{true≢false}
use Rattle.pattern_tables.proofs.Clashing.{first_uncovered_is, all_covered, alias_at}
use Rattle.pattern_tables.proofs.covering.first_uncovered.Goals as goal

pub returns-then-not-is_covered : goal.returns-then-not-is_covered
returns-then-not-is_covered c width frames stand =
    first_uncovered_is width frames _ _ stand c.forms.form (omega arith) (alias_at c.args.plain.now c.forms.form (omega arith) c.if-not-plain-form.true)
    (λ s. true≢false (sym (c.is_covered.ensures.1 s) ∙ c.if-not-is_covered.true)) c.forms.invariant

pub returns : goal.returns
returns c width frames stand = all_covered width frames _ _ stand c.forms.form c.forms.invariant (omega arith)
