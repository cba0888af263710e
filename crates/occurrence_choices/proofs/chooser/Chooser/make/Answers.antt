use Rattle.std.proofs.Common.{sym, ◌∙◌}
use Rattle.occurrence_choices.proofs.chooser.Chooser.make.Goals as goal

pub invariant_of-result : goal.invariant_of-result
invariant_of-result c = c.in_ok-choices.ensures ∙ sym c.in_ok-described.ensures
