use Rattle.std.proofs.Common.{refl, arith}
use Rattle.hex_files.proofs.DigitPuts.{byte_put}
use Rattle.hex_files.proofs.hex_printer.+put_low_bytes.Goals as goal

pub returns : goal.returns
returns t c = byte_put c.args.out.now.items _ _ c.args.count c.args.value _ (omega (arith, c.if-count-eq0.false)) refl c.in_ok-push.ensures.items c.in_ok-put_low_bytes.ensures
