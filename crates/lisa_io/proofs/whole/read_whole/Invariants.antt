use Rattle.std.proofs.Common.{◌+◌, ◌-◌, vec_len}
use Rattle.lisa_io.proofs.ReadWhole.{SoFar}
use Rattle.lisa_io.proofs.whole.read_whole.Given as goal

abbrev pub invariant-loop-block : goal.invariant-loop-block
invariant-loop-block g l = SoFar g.F.Files.held g.F.Files.faults l.fn.files l.files l.name l.limit l.bytes.items

abbrev pub decreases-loop-block : goal.decreases-loop-block
decreases-loop-block g l = l.limit + 1 - vec_len l.bytes
