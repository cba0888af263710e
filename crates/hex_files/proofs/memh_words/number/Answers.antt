use Rattle.std.proofs.Common.{sym, ◌∙◌}
use Rattle.hex_files.proofs.NumberLoop.{number_is, refuses, all_taken}
use Rattle.hex_files.proofs.memh_words.number.Goals as goal

pub returns-in_err-value : goal.returns-in_err-value
returns-in_err-value c =
    rw c.from_residual.ensures
    (sym (refuses c.loop-byte.value c.args.text.now c.loop-byte.byte-index c.loop-byte-test.true c.if-byte-ne95.true c.in_err-value.ensures) ∙ c.loop-byte.invariant ∙ number_is c.args.text.now (sym c.is_number.ensures ∙ c.if-not-is_number.false))

pub returns : goal.returns
returns c = sym (all_taken c.loop-byte.value c.args.text.now c.loop-byte.byte-index c.loop-byte-test.false) ∙ c.loop-byte.invariant ∙ number_is c.args.text.now (sym c.is_number.ensures ∙ c.if-not-is_number.false)
