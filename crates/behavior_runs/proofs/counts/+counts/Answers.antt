use Rattle.std.proofs.Common.{◌≡◌, ℕ, ap, sym, subst}
use Rattle.std.specs.Prelude.{IfOk}
use Rattle.behavior_runs.specs.Rooms.{locals_in}
use Rattle.behavior_runs.proofs.BlockTrees.{block_is}
use Rattle.behavior_runs.proofs.counts.+counts.Goals as goal

pub count-returns-in-Block : goal.count-returns-in-Block
count-returns-in-Block t c =
    subst (λ (k : ℕ). IfOk c.count_all.result (λ (n : ℕ). n ≡ k))
    (sym (ap locals_in (block_is c.args.statement.now c.in-Block.all c.as_slice.result.now c.in-Block.is c.as_slice.ensures.value))) c.count_all.ensures
