use Rattle.std.proofs.Common.{arith, ◌-◌, ◌*◌, ◌%◌, ◌^◌}
use Rattle.std.proofs.lemmas.Nat.{and_le_l}
use Rattle.activation_bits.proofs.HasBits.{from_on, none_from, least}
use Rattle.activation_bits.proofs.words.least_from.Goals as goal

pub returns-then-rest-eq0 : goal.returns-then-rest-eq0
unfolding from_on
returns-then-rest-eq0 c = none_from c.args.word c.args.from c.requires c.if-rest-eq0.true

pub returns-else-rest-eq0 : goal.returns-else-rest-eq0
unfolding from_on
returns-else-rest-eq0 c = least c.args.word c.args.from c.requires (omega arith) (omega (arith, and_le_l c.args.word ((2 ^ 64 - 1) * 2 ^ c.args.from % 2 ^ 64), c.ranges.word.fits))
