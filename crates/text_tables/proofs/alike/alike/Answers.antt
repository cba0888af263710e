use Rattle.std.proofs.Common.{arith}
use Rattle.text_tables.proofs.Aliking.{one_more}
use Rattle.text_tables.proofs.alike.alike.Goals as goal

pub pieces-preserved : goal.pieces-preserved
pieces-preserved c =
    one_more c.args.one.now c.args.other.now c.pieces.i c.index-one-i.result c.index-other-i.result (omega (arith, c.min-most.ensures)) (omega (arith, c.min-most.ensures)) c.index-one-i.is c.index-other-i.is
    (c.is_same.ensures c.if-not-is_same.false) c.pieces.invariant
