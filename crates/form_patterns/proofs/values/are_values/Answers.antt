use Rattle.std.proofs.Common.{arith}
use Rattle.form_patterns.proofs.Rowed.{in_row}
use Rattle.form_patterns.proofs.values.are_values.Goals as goal

pub returns-then-form-places : goal.returns-then-form-places
returns-then-form-places c = λ d are.
    in_row d c.args.places.now c.args.form c.args.values.now c.index-places-form.result c.deref.result.now c.are_within.result c.deref.ensures.value are (omega (arith, c.if-form-places.true)) c.index-places-form.is c.are_within.ensures
