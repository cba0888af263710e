use Rattle.access_counts.proofs.Worth.{starts}
use Rattle.access_counts.proofs.due.due.Goals as goal

pub loop-name-init : goal.loop-name-init
loop-name-init g c = record {
  count = c.in_ok-due.ensures.length;
  rest = λ price. starts _ _ (c.in_ok-due.ensures.nothing price);
}
