use Rattle.std.proofs.Common.{◌≡◌, ◌<◌, arith}
use Rattle.lisa_behav_reader.proofs.BinaryLaws.{fits, stops, goes}
use Rattle.lisa_behav_reader.proofs.expressions.binary.Goals as goal

pub returns-in_err-value : goal.returns-in_err-value
returns-in_err-value c = rw c.from_residual.ensures (stops c.args.digits.now c.digits.value c.digits.left.now c.digits.invariant.0 c.in-len1-up.len_at_least c.in_err-value.ensures)

pub returns : goal.returns
returns c = fits c.args.digits.now c.digits.value c.digits.left.now c.digits.invariant.0 c.in_default.len_below c.digits.invariant.1
