use Rattle.std.proofs.Common.{◌<◌, ◌^◌}
use Rattle.std.specs.Prelude.{unwrap_or}
use Rattle.form_patterns.proofs.Rowed.{failed}
use Rattle.lisa_forms.proofs.Decoded.{wider, answered}
use Rattle.lisa_forms.proofs.Overlapping.{bounded}
use Rattle.lisa_forms.proofs.coding.Coding.decode.Goals as goal

pub returns-then-not-is_narrow-clause-form : goal.returns-then-not-is_narrow-clause-form
returns-then-not-is_narrow-clause-form g c = λ d is.
    wider d c.args.word c.args.self.now is (failed c.is_narrow.result (c.args.word < 2 ^ unwrap_or c.args.self.now.width 0) c.if-not-is_narrow.true c.is_narrow.ensures.1)

pub returns-clause-form : goal.returns-clause-form
returns-clause-form g c = λ d is. answered d c.args.word c.args.self.now c.decode.result is (c.is_narrow.ensures.0 c.if-not-is_narrow.false) c.decode.ensures.form

pub returns-clause-cost : goal.returns-clause-cost
returns-clause-cost g c = λ d is. bounded d c.args.self.now is _ _ (c.decode.ensures.cost c.args.self.now.patterns.items c.args.self.now.plain.items is.tables)
