use Rattle.hex_files.proofs.LineSteps.{first_byte, byte_stored, bytes_stored}
use Rattle.hex_files.proofs.hex_reader.store_bytes.Goals as goal

pub loop-place-init : goal.loop-place-init
loop-place-init c = first_byte c.args.values.now.items c.args.content.now c.args.start

pub loop-place-preserved : goal.loop-place-preserved
loop-place-preserved c = byte_stored c.loop-place.values.items c.args.content.now c.args.start c.loop-place.place _ c.loop-place.invariant _ c.loop-place-test.true c.in_ok-store_byte.ensures

pub returns : goal.returns
returns c = bytes_stored c.loop-place.values.items c.args.content.now c.args.start c.loop-place.place _ c.loop-place.invariant c.loop-place-test.false
