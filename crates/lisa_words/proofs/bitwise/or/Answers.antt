use Rattle.std.proofs.Common.{◌<◌, ◌^◌}
use Rattle.std.proofs.lemmas.Nat.{or_lt}
use Rattle.lisa_words.proofs.bitwise.or.Goals as goal

pub invariant_of-result-clause-fits : goal.invariant_of-result-clause-fits
invariant_of-result-clause-fits c =
    let fits_b : c.args.b.bits < 2 ^ c.args.a.width = rw c.requires c.args.b.fits in
    or_lt _ _ _ c.args.a.fits fits_b
