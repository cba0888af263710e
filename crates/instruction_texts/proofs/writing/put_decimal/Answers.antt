use Rattle.std.proofs.Common.{◌∙◌, false}
use Rattle.instruction_texts.proofs.NumeralTexts.{written_digits}
use Rattle.instruction_texts.proofs.writing.put_decimal.Goals as goal

pub returns-clause-bytes : goal.returns-clause-bytes
returns-clause-bytes c = let e = c.decimal-count.ensures.digits ∙ written_digits false c.args.value c.ranges.value.fits in rw e at c.put_bytes.ensures.bytes
