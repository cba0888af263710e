use Rattle.std.proofs.Common.{[], None, ap, arith}
use Rattle.std.proofs.lemmas.Option.{slice_get_past}
use Rattle.occurrence_choices.specs.Standings.{seen_standing}
use Rattle.occurrence_choices.proofs.making.make_formless.Goals as goal

pub returns : goal.returns
returns c d are = c.in_ok-row.ensures d None are (λ k h. ap seen_standing (slice_get_past [] k (omega arith)))
