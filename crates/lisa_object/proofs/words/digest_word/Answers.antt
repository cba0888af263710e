use Rattle.std.proofs.Common.{◌≡◌, length, refl, sym, ◌∙◌, arith}
use Rattle.std.proofs.Math.ListN.{length-set}
use Rattle.std.proofs.lemmas.Bool.{eqb-true}
use Rattle.lisa_object.specs.Reading.{bytes_of}
use Rattle.lisa_object.proofs.DigestLoop.{begins, goes_on, fails, whole, too_long, some_from}
use Rattle.lisa_object.proofs.words.digest_word.Goals as goal

pub loop-i-init : goal.loop-i-init
loop-i-init c = (begins (bytes_of 32 c.args.word.now), refl)

pub returns-in_err-byte : goal.returns-in_err-byte
returns-in_err-byte c = rw c.from_residual.ensures (sym (fails c.loop-i.digest c.loop-i.i c.loop-i.rest.now _ c.loop-i.invariant.0 c.loop-i-test.true (sym c.in_err-byte.ensures)))

pub loop-i-preserved : goal.loop-i-preserved
loop-i-preserved c = (goes_on c.loop-i.digest c.loop-i.i c.loop-i.rest.now _ c.loop-i.invariant.0 c.loop-i-test.true c.in_ok-byte.byte c.in_ok-byte.behind.now (sym c.in_ok-byte.ensures) c.loop-i.invariant.1, rw length-set c.loop-i.invariant.1)

pub returns-then-is_empty : goal.returns-then-is_empty
returns-then-is_empty c = sym (whole c.loop-i.digest c.loop-i.i c.loop-i.rest.now _ c.loop-i.invariant.0 c.loop-i-test.false c.loop-i.invariant.1 (eqb-true _ _ (sym c.is_empty.ensures ∙ c.if-is_empty.true)))

pub returns-else-is_empty : goal.returns-else-is_empty
returns-else-is_empty c = sym (too_long c.loop-i.digest c.loop-i.i c.loop-i.rest.now _ c.loop-i.invariant.0 c.loop-i-test.false (some_from _ (sym c.is_empty.ensures ∙ c.if-is_empty.false)))
