use Rattle.std.proofs.Common.{sym, ◌∙◌}
use Rattle.instruction_texts.specs.Leads.{both_accept, run_tries}
use Rattle.instruction_texts.proofs.Sharing.{found_left, found_right}
use Rattle.instruction_texts.proofs.common_runs.common_run.Goals as goal

pub returns-in-Some : goal.returns-in-Some
returns-in-Some c = found_left (both_accept c.args.first c.args.second) (run_tries c.args.first) (run_tries c.args.second) c.in-Some.text (sym c.in-Some.is ∙ c.in_ok-text.ensures)

pub returns : goal.returns
returns c = let e = found_right (both_accept c.args.first c.args.second) (run_tries c.args.first) (run_tries c.args.second) (sym c.in_default.is ∙ c.in_ok-text.ensures) in rw e at c.tried-2.ensures
