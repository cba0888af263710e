use Rattle.lowered_values.proofs.Forming.{half_within}
use Rattle.lowered_values.proofs.formulas.half_at.Goals as goal

pub invariant_of-result-clause-fits : goal.invariant_of-result-clause-fits
invariant_of-result-clause-fits c = half_within c.args.width c.args.to c.requires.least c.requires.wider
