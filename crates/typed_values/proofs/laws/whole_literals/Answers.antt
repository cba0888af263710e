use Rattle.typed_values.proofs.Literals.{number_at}
use Rattle.typed_values.proofs.laws.whole_literals.Goals as goal

pub returns : goal.returns
returns c = λ kind v width. number_at kind v width
