use Rattle.std.proofs.Common.{arith}
use Rattle.std.proofs.lemmas.Option.{slice_get_within}
use Rattle.lisa_syntax.proofs.reading.place_of.Goals as goal

pub returns : goal.returns
returns c =
    absurd (c.requires (λ k e.
    let inside = slice_get_within c.args.order.now k c.args.field e in
    let end = c.loop-place-test.false in
    c.loop-place.invariant k (omega (arith, inside, end)) e))
