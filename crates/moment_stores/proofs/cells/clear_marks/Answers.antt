use Rattle.std.proofs.Common.{◌∙◌}
use Rattle.moment_stores.specs.Rows.{rows}
use Rattle.moment_stores.proofs.CellLemmas.{clear_step}
use Rattle.moment_stores.proofs.cells.clear_marks.Goals as goal

pub each-preserved : goal.each-preserved
each-preserved c =
    let both = clear_step (rows c.each.marks) (rows c.set_in.new.all) c.args.touches.now c.each.touch-index _ c.each-test.true c.set_in.ensures c.each.invariant.marked in
    record { same = both.0 ∙ c.each.invariant.same; marked = both.1 }
