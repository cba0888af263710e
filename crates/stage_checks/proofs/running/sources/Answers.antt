use Rattle.std.proofs.Common.{◌∙◌, arith}
use Rattle.stage_checks.proofs.Rows.{no_test, seen_within}
use Rattle.stage_checks.proofs.running.sources.Goals as goal

pub returns : goal.returns
returns g c = λ t b. c.loop-node.invariant.rows t b ∙ no_test _ _ _ (seen_within c.args.reached.now c.loop-node.node b (omega arith))
