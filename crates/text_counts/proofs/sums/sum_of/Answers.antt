use Rattle.least_fixed_points.specs.Settles.{entry}
use Rattle.text_counts.proofs.Adding.{begins, sum_capped}
use Rattle.text_counts.proofs.sums.sum_of.Goals as goal

pub loop-operation-init : goal.loop-operation-init
loop-operation-init c = begins _ (sum_capped c.args.more (entry c.args.table.now) c.args.operations.now)
