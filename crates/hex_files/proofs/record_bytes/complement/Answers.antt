use Rattle.hex_files.proofs.RecordLoops.{complement_is}
use Rattle.hex_files.proofs.record_bytes.complement.Goals as goal

pub returns : goal.returns
returns c = rw c.from.ensures (complement_is c.byte_sum-first.result c.byte_sum-total.result c.args.head.now c.args.content.now c.byte_sum-first.ensures c.byte_sum-total.ensures)
