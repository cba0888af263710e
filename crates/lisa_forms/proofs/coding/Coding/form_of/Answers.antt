use Rattle.std.proofs.Common.{◌<◌, ◌^◌}
use Rattle.std.specs.Prelude.{unwrap_or}
use Rattle.form_patterns.proofs.Rowed.{failed}
use Rattle.lisa_forms.proofs.Decoded.{wider, answered}
use Rattle.lisa_forms.proofs.coding.Coding.form_of.Goals as goal

pub returns-then-not-is_narrow : goal.returns-then-not-is_narrow
returns-then-not-is_narrow c = λ d is.
    wider d c.args.word c.args.self.now is (failed c.is_narrow.result (c.args.word < 2 ^ unwrap_or c.args.self.now.width 0) c.if-not-is_narrow.true c.is_narrow.ensures.1)

pub returns : goal.returns
returns c = λ d is. answered d c.args.word c.args.self.now c.form_of.result is (c.is_narrow.ensures.0 c.if-not-is_narrow.false) c.form_of.ensures
