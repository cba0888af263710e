use Rattle.std.proofs.Common.{arith}
use Rattle.lisa_forms.proofs.Fielded.{fields_counted, no_fields}
use Rattle.lisa_forms.proofs.coding.Coding.field_count.Goals as goal

pub returns-then-form-len : goal.returns-then-form-len
returns-then-form-len c = λ d is i. fields_counted d c.args.self.now is c.args.form i c.len-then-form-len.result c.index.result.now (omega (arith, c.if-form-len.true)) c.index.ensures c.len-then-form-len.ensures

pub returns-else-form-len : goal.returns-else-form-len
returns-else-form-len c = λ d is i. no_fields d c.args.self.now is c.args.form i (omega (arith, c.if-form-len.false))
