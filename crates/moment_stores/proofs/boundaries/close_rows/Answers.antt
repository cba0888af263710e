use Rattle.std.proofs.Common.{◌-◌, arith}
use Rattle.std.specs.Prelude.{reverse}
use Rattle.moment_stores.specs.Rows.{rows}
use Rattle.moment_stores.specs.Boundaries.{closed}
use Rattle.moment_stores.proofs.Tables.{table_ext}
use Rattle.moment_stores.proofs.Closing.{closed_step}
use Rattle.moment_stores.proofs.boundaries.close_rows.Goals as goal

pub each-preserved : goal.each-preserved
each-preserved c =
    let both = closed_step c.args.count c.args.width (c.each.left - 1) (rows c.args.fields.now) (rows c.each.fields) (rows c.close_row.new.fields) (rows c.args.outs.now)
    (reverse c.args.stalled.now.noted.items) (reverse c.args.flushed.now.noted.items) c.closing_of-closing.result.stays c.closing_of-closing.result.empties c.closing_of-closing.ensures.stays c.closing_of-closing.ensures.empties
    (λ s f less. c.each.invariant.earlier s f (omega (arith, less, c.each-test.true)))
    (λ s f low less inside. c.each.invariant.ended s f (omega (arith, low, c.each-test.true)) less inside)
    c.close_row.ensures.here c.close_row.ensures.others in
    record {
      within = omega (arith, c.each.invariant.within);
      shape = c.close_row.ensures.table;
      earlier = both.0;
      ended = both.1;
    }

pub returns : goal.returns
returns c =
    table_ext c.args.count c.args.width (closed (reverse c.args.stalled.now.noted.items) (reverse c.args.flushed.now.noted.items) (rows c.args.fields.now) (rows c.args.outs.now)) 0 (rows c.each.fields) c.each.invariant.shape
    (λ s f less inside. c.each.invariant.ended s f (omega (arith, c.each-test.false)) less inside)
