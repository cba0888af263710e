use Rattle.std.proofs.Common.{arith}
use Rattle.lisa_engine.proofs.Places.{any_default}
use Rattle.verilog_clock.proofs.Cells.{fold_next}
use Rattle.verilog_clock.proofs.writes.apply.Goals as goal

pub each-preserved : goal.each-preserved
each-preserved c = record {
  shape = c.make_update.ensures.shape;
  left = fold_next c.args.updates.now c.each.update-index _ _ _ _ c.each-test.true (any_default c.args.updates.now c.each.update-index _ _ c.each-test.true) c.make_update.ensures.state c.each.invariant.left;
  tracks = c.make_update.ensures.touches _ c.each.invariant.tracks;
  len = omega (arith, c.make_update.ensures.len, c.each.invariant.len);
  room = omega (arith, c.make_update.ensures.room, c.each.invariant.room);
}
