use Rattle.typed_values.proofs.Kept.{reset_keeps}
use Rattle.typed_values.proofs.resets.reset_keeps_types.Goals as goal

pub returns : goal.returns
returns c = λ d. reset_keeps d
