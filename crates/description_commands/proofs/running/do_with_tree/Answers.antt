use Rattle.std.proofs.Common.{List, ℕ}
use Rattle.lisa_outcomes.specs.RunViews.{bytes_of}
use Rattle.lisa_outcomes.proofs.Endings.{passed_ends, stopped_ends}
use Rattle.description_commands.specs.Runs.{GivesChecked}
use Rattle.checked_descriptions.specs.ToolViews.{checked_of}
use Rattle.description_commands.proofs.running.do_with_tree.Goals as goal

pub returns-in-Ok-clause-ends : goal.returns-in-Ok-clause-ends
returns-in-Ok-clause-ends g c =
    passed_ends {T = Unit {0}} {W = List ℕ} checked_of _ _ _ (λ lines. GivesChecked c.args.task (bytes_of c.args.bytes.now) lines) _ _ c.in-Ok.tools _ _ _ _ _ c.in-Ok.ensures.finds
    (λ b. (b.0, record { checked = checked_of c.in-Ok.tools; is = c.in-Ok.ensures.finds.found; cut = b.1 })) c.do_with_tools.ensures.ends

pub returns-in-Err-clause-ends : goal.returns-in-Err-clause-ends
returns-in-Err-clause-ends g c =
    stopped_ends {T = Unit {0}} {W = List ℕ} checked_of _ _ _ (λ lines. GivesChecked c.args.task (bytes_of c.args.bytes.now) lines) _ c.in-Err.end _ _ c.in-Err.ensures.finds
