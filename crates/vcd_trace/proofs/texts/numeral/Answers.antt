use Rattle.vcd_trace.proofs.NumeralLaws.{numeral_is}
use Rattle.vcd_trace.proofs.texts.numeral.Goals as goal

pub returns : goal.returns
returns c = numeral_is c.decimal_value.result c.args.text.now c.decimal_value.ensures
