use Rattle.std.proofs.Common.{◌≡◌, ◌<◌, length, Ok, Some, None, arith}
use Rattle.std.proofs.lemmas.Result.{err_from_is_err_and}
use Rattle.asm_source.specs.Bytes.{skip_blanks}
use Rattle.asm_source.specs.Parts.{label_at}
use Rattle.asm_source.proofs.Loops.{goes_on, ends, fails}
use Rattle.asm_source.proofs.Stops.{no_label}
use Rattle.asm_source.proofs.labels.labels.Goals as goal

pub returns-in_err-label : goal.returns-in_err-label
returns-in_err-label c =
    let p = err_from_is_err_and c.from_residual.result c.from_residual.ensures.1 in
    let there = rw c.skip_blanks-text.ensures.value at c.in_err-label.ensures.exact in
    rw (p.1, p.2) (fails label_at no_label c.args.text.now c.each.all.items c.each.rest.now c.each.invariant c.in_err-label.field-0.0 there)

pub returns-in_default : goal.returns-in_default
returns-in_default c =
    let there : label_at (skip_blanks c.each.rest.now) ≡ Ok None = rw (c.skip_blanks-text.ensures.value, c.in_default.is) at c.in_ok-label.ensures.exact in
    rw c.skip_blanks-text.ensures.value (ends label_at no_label c.args.text.now c.each.all.items c.each.rest.now c.each.invariant there)

pub each-preserved : goal.each-preserved
each-preserved c =
    let there : label_at (skip_blanks c.each.rest.now) ≡ Ok (Some (c.in-Some.label.now, c.in-Some.after.now)) = rw (c.skip_blanks-text.ensures.value, c.in-Some.is) at c.in_ok-label.ensures.exact in
    let less : length c.in-Some.after.now < length c.each.rest.now = omega (arith, c.skip_blanks-text.ensures.shorter, rw c.in-Some.is at c.in_ok-label.ensures.shorter) in
    rw (c.in_ok-push.ensures.items, c.in_ok-from_bytes.ensures) (goes_on label_at no_label c.args.text.now c.each.all.items c.each.rest.now c.each.invariant c.in-Some.label.now c.in-Some.after.now there less)
