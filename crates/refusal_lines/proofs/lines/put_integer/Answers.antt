use Rattle.std.proofs.Common.{◌≡◌, arith}
use Rattle.std.proofs.lemmas.Grind.{common_steps}
use Rattle.std.specs.Prelude.{unsigned_abs}
use Rattle.std.proofs.lemmas.Int.{ints}
use Rattle.lisa_io.proofs.Known.{puts_then}
use Rattle.refusal_lines.proofs.FieldTexts.{signed_below}
use Rattle.refusal_lines.proofs.lines.put_integer.Goals as goal

pub returns : goal.returns
returns g c =
    let same : c.unsigned_abs-2.result ≡ unsigned_abs c.args.value = grind (arith, common_steps) in
    rw (signed_below c.args.value (omega (arith, ints))) (puts_then c.in_ok-put_all.ensures (rw same at c.put_wide-2.ensures))
