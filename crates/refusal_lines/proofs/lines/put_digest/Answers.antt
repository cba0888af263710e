use Rattle.std.proofs.Common.{◌+◌, arith}
use Rattle.lisa_io.proofs.Known.{puts_exit, puts_early, puts_more}
use Rattle.lisa_object.specs.Texts.{byte_digits}
use Rattle.refusal_lines.proofs.lines.put_digest.Goals as goal

pub returns-in_err-put_byte : goal.returns-in_err-put_byte
returns-in_err-put_byte g c =
    puts_exit _ _ c.from_residual.ensures.1
    (puts_early byte_digits _ (c.loop-place.place + 1) _ _ _ _ _
    (puts_more byte_digits c.args.bytes.now c.loop-place.place 0 _ _ _ _ _ _ _ _ (omega arith) c.loop-place.invariant c.in_err-put_byte.ensures))

pub loop-place-preserved : goal.loop-place-preserved
loop-place-preserved g c = puts_more byte_digits c.args.bytes.now c.loop-place.place 0 _ _ _ _ _ _ _ _ (omega arith) c.loop-place.invariant c.in_ok-put_byte.ensures
