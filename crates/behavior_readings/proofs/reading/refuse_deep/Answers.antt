use Rattle.std.proofs.Common.{subst}
use Rattle.lisa_tree.specs.declared.tokens.Token.{Token}
use Rattle.lisa_tree.specs.declared.faults.DescFault.TheVariants as faults
use Rattle.behavior_readings.specs.Refusals.{IsDeep}
use Rattle.behavior_readings.proofs.DeepLaws.{deep_there}
use Rattle.behavior_readings.proofs.reading.refuse_deep.Goals as goal

pub returns-in-Some-clause-deep : goal.returns-in-Some-clause-deep
returns-in-Some-clause-deep c =
    let tokens = c.args.tokens.now in
    let token = c.index-tokens-i.result in
    subst (λ (t : Token). IsDeep tokens (faults.TooDeep t.at)) c.index-tokens-i.is (deep_there tokens c.in-Some.i token c.in-Some.ensures c.index-tokens-i.is)
