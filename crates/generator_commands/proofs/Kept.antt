-- The text of a state that was kept, its digest, and what is told of it.
use Rattle.std.proofs.Common.{◌≡◌, ◌∙◌, ℕ, List, [], ◌++◌, Some, Option, Result, refl, ap, subst}
use Rattle.std.specs.Io.KnownBytes.{Appends}
use Rattle.lisa_engine.specs.Text.{state_text}
use Rattle.lisa_engine.specs.ScheduleLine.{Line}
use Rattle.lisa_engine.specs.declared.parts.Item.{Item}
use Rattle.lisa_outcomes.specs.declared.status.End.{End}
use Rattle.lisa_outcomes.specs.Outcomes.{Outcome, Finished}
use Rattle.lisa_outcomes.specs.Writes.{Writes}
use Rattle.lisa_outcomes.specs.Replies.{Replies}
use Rattle.lisa_outcomes.proofs.Writing.{written_replies}
use Rattle.lisa_engine.specs.Machines.{Machine, course_of, state_at}
use Rattle.engine_commands.specs.Schedules.{IsSchedule}
use Rattle.generator_commands.specs.declared.reports.Report.{Report}
use Rattle.generator_commands.specs.Reports.{final_text}

-- no bytes write no lines
pub no_lines : (pins : List Item) → IsSchedule pins [] []
no_lines pins = refl

pub kept_text : (m : Machine) (edges : ℕ) (lines : List Line) (start text : List ℕ) → lines ≡ [] → start ≡ []
    → Appends (Some start) (Some text) (state_text m.items m.arrays edges (state_at (course_of m lines) edges)) → text ≡ final_text m edges
kept_text m edges lines start text none empty appends = appends ∙ ap (λ (s : List ℕ). s ++ state_text m.items m.arrays edges (state_at (course_of m lines) edges)) empty
    ∙ ap (λ (l : List Line). state_text m.items m.arrays edges (state_at (course_of m l) edges)) none

-- reports with the same parts
pub report_is : (r s : Report) → r.cells ≡ s.cells → r.edges ≡ s.edges → r.image ≡ s.image → r.state ≡ s.state → r.clock ≡ s.clock → r ≡ s
report_is r s cells edges image state clock = λ i. record { cells = cells i; edges = edges i; image = image i; state = state i; clock = clock i }

pub told : {T : Type 0} (text wanted : List ℕ) (before after : Option (List ℕ)) (old new : ℕ) (result : Result T End) → text ≡ wanted → Writes before after old new result text
    → Replies (λ (outcome : Outcome). outcome ≡ Finished wanted) before after old new result
told text wanted before after old new result same writes = written_replies wanted before after old new result (subst (Writes before after old new result) same writes)
