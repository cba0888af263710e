use Rattle.std.proofs.Common.{ℕ, subst, arith}
use Rattle.std.proofs.lemmas.List.{length-map, get_or-map}
use Rattle.instruction_trees.specs.Values.{StandsBelow}
use Rattle.pattern_tables.specs.Places.{pair_of}
use Rattle.form_patterns.proofs.Rowed.{level, within_at}
use Rattle.lisa_forms.proofs.Adding.{all_added}
use Rattle.lisa_forms.proofs.fields.with_fields.Goals as goal

pub bounds-fields-i : goal.bounds-fields-i
bounds-fields-i c = omega (arith, level c.args.fields.now c.args.places.now c.requires.within, c.fields-test.true)

pub shifted-word-requires-clause-below : goal.shifted-word-requires-clause-below
shifted-word-requires-clause-below c = within_at c.args.fields.now c.args.places.now c.fields.i (record { lsb = 0; width = 0 }) c.requires.within (omega (arith, c.fields-test.true))

pub shifted-word-requires-clause-inside : goal.shifted-word-requires-clause-inside
shifted-word-requires-clause-inside c =
    subst (λ (p : ℕ × ℕ). StandsBelow 64 p) (get_or-map pair_of c.args.places.now c.fields.i (record { lsb = 0; width = 0 }) (0, 0) (omega (arith, c.fields-test.true)))
    (c.requires.inside c.fields.i (omega (arith, c.fields-test.true, length-map c.args.places.now pair_of)))

pub returns : goal.returns
returns c = all_added c.args.pattern c.args.fields.now c.args.places.now c.fields.i c.fields.word c.requires.within (omega (arith, c.fields-test.false)) c.fields.invariant
