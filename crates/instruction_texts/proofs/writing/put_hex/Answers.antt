use Rattle.std.proofs.Common.{◌∙◌, true}
use Rattle.instruction_texts.proofs.NumeralTexts.{written_digits}
use Rattle.instruction_texts.proofs.writing.put_hex.Goals as goal

pub returns-clause-bytes : goal.returns-clause-bytes
returns-clause-bytes c = let e = c.hex-count.ensures.digits ∙ written_digits true c.args.value c.ranges.value.fits in rw e at c.put_bytes.ensures.bytes
