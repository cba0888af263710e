use Rattle.std.proofs.Common.{vec_len}
use Rattle.operator_levels.proofs.operands.+join_before.Given as goal

abbrev pub decreases-join_before : goal.decreases-join_before
decreases-join_before g l = vec_len l.waiting.now
