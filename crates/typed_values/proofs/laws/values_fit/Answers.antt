use Rattle.typed_values.proofs.Fitting.{value_fits}
use Rattle.typed_values.proofs.laws.values_fit.Goals as goal

pub returns : goal.returns
returns c = λ reader e. value_fits reader e
