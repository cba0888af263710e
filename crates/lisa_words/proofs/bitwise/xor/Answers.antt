use Rattle.std.proofs.Common.{◌<◌, ◌^◌}
use Rattle.std.proofs.lemmas.Nat.{xor_lt}
use Rattle.lisa_words.proofs.bitwise.xor.Goals as goal

pub invariant_of-result-clause-fits : goal.invariant_of-result-clause-fits
invariant_of-result-clause-fits c =
    let fits_b : c.args.b.bits < 2 ^ c.args.a.width = rw c.requires c.args.b.fits in
    xor_lt _ _ _ c.args.a.fits fits_b
