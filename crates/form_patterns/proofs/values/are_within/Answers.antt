use Rattle.std.proofs.Common.{refl, arith}
use Rattle.form_patterns.proofs.Rowed.{level, within_at, all_within, failed}
use Rattle.form_patterns.proofs.values.are_within.Goals as goal

pub returns-then-values-places : goal.returns-then-values-places
returns-then-values-places c = ((λ e. absurd (cc e)), (λ w. absurd (omega (arith, c.if-values-places.true, level c.args.values.now c.args.places.now w))))

pub returns-then-not-is_within : goal.returns-then-not-is_within
returns-then-not-is_within c = (
  λ e. absurd (cc e),
  λ w. absurd (failed c.is_within.result _ c.if-not-is_within.true c.is_within.ensures.1 (within_at c.args.values.now c.args.places.now c.loop-field.field (record { lsb = 0; width = 0 }) w (omega (arith, c.loop-field-test.true)))),
)

pub returns : goal.returns
returns c = (
  λ _. all_within c.args.values.now c.args.places.now c.loop-field.field (omega (arith, c.if-values-places.false)) (omega (arith, c.loop-field-test.false)) c.loop-field.invariant,
  λ _. refl,
)
