use Rattle.lisa_eval.proofs.Terms.{terms_meant}
use Rattle.lisa_eval.proofs.laws.terms_are_meant.Goals as goal

pub returns : goal.returns
returns c = terms_meant
