use Rattle.std.proofs.Common.{◌∙◌}
use Rattle.occurrence_choices.proofs.chooser.Chooser.see.Goals as goal

pub invariant_of-self : goal.invariant_of-self
invariant_of-self c = c.see.ensures ∙ c.self.invariant

pub returns : goal.returns
returns c = c.self.view_is
