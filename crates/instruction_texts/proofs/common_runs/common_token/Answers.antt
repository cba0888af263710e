use Rattle.std.proofs.Common.{sym, ◌∙◌}
use Rattle.instruction_texts.proofs.Sharing.{shared_is, none_shared}
use Rattle.instruction_texts.proofs.common_runs.common_token.Goals as goal

pub returns-in-Some : goal.returns-in-Some
returns-in-Some c = rw (c.in-Run-Run.is-0, c.in-Run-Run.is-1) (shared_is c.in-Run-Run.run' c.in-Run-Run.other c.in-Some.text (sym c.in-Some.is ∙ c.in_ok-text-in-Run-Run.ensures))

pub returns-in-None : goal.returns-in-None
returns-in-None c = rw (c.in-Run-Run.is-0, c.in-Run-Run.is-1) (none_shared c.in-Run-Run.run' c.in-Run-Run.other (sym c.in-None.is ∙ c.in_ok-text-in-Run-Run.ensures))
