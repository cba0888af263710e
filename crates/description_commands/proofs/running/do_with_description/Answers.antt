use Rattle.std.proofs.Common.{List, ℕ}
use Rattle.lisa_tree.specs.Descriptions.{description_tree}
use Rattle.lisa_outcomes.specs.RunViews.{bytes_of}
use Rattle.lisa_outcomes.proofs.Endings.{passed_ends, stopped_ends}
use Rattle.checked_descriptions.specs.Checked.{AfterChecks}
use Rattle.description_commands.specs.Runs.{GivesChecked}
use Rattle.description_commands.proofs.running.do_with_description.Goals as goal

pub do_with_tree-requires-clause-spelled : goal.do_with_tree-requires-clause-spelled
do_with_tree-requires-clause-spelled g c = record { bytes = (bytes_of c.args.bytes.now).main; spells = c.in-Ok.ensures.found }

pub returns-in-Ok-clause-ends : goal.returns-in-Ok-clause-ends
returns-in-Ok-clause-ends g c =
    passed_ends {T = Unit {0}} {W = List ℕ} description_tree _ _ _ (λ lines d. AfterChecks d (GivesChecked c.args.task (bytes_of c.args.bytes.now) lines)) _ _ c.in-Ok.description _ _ _ _ _ c.in-Ok.ensures
    (λ b. (b.0, record { tree = description_tree c.in-Ok.description; spelled = c.in-Ok.ensures.found; cut = b.1 })) c.do_with_tree.ensures.ends

pub returns-in-Err-clause-ends : goal.returns-in-Err-clause-ends
returns-in-Err-clause-ends g c =
    stopped_ends {T = Unit {0}} {W = List ℕ} description_tree _ _ _ (λ lines d. AfterChecks d (GivesChecked c.args.task (bytes_of c.args.bytes.now) lines)) _ c.in-Err.end _ _ c.in-Err.ensures
