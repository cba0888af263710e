use Rattle.std.proofs.Common.{rules}
use Rattle.form_patterns.proofs.Narrow.{narrow, always}
use Rattle.form_patterns.proofs.values.is_within.Goals as goal

pub returns-then-width-ge64 : goal.returns-then-width-ge64
returns-then-width-ge64 c = ((λ _. always c.args.value c.args.width (search rules) (search rules)), (λ _. search rules))

pub returns-else-width-ge64 : goal.returns-else-width-ge64
returns-else-width-ge64 c = narrow c.args.value c.args.width
