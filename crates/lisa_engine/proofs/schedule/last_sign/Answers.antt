use Rattle.lisa_engine.proofs.Signs.{no_sign, sign_at}
use Rattle.std.proofs.Common.{arith}
use Rattle.lisa_engine.proofs.schedule.last_sign.Goals as goal

pub returns-then-word-end-eq61 : goal.returns-then-word-end-eq61
returns-then-word-end-eq61 c = sign_at _ _ c.loop-end-test.true c.loop-end.invariant.0 c.loop-end.invariant.1 c.if-word-end-eq61.true

pub returns : goal.returns
returns c = no_sign _ (λ k from below is. c.loop-end.invariant.1 k (omega arith) below is)
