-- Reading a schedule as a step of a command.
use Rattle.std.proofs.Common.{◌≡◌, ◌∙◌, sym, refl, subst, List, ℕ, Result, Ok, Err, ◌⊎◌, inl, inr, ⊎_elim}
use Rattle.lisa_engine.specs.ScheduleLine.{Line}
use Rattle.lisa_engine.specs.Schedules.{schedule_of, IsUnlessNoMemory}
use Rattle.lisa_engine.specs.declared.parts.Item.{Item}
use Rattle.lisa_engine.specs.declared.schedule.ScheduleFault.{ScheduleFault}
use Rattle.lisa_engine.specs.declared.schedule.ScheduleFault.TheVariants as schedules
use Rattle.lisa_outcomes.specs.declared.status.End.{End}
use Rattle.lisa_outcomes.specs.declared.status.End.TheVariants as ends
use Rattle.lisa_outcomes.specs.declared.status.Refusal.TheVariants as refusals
use Rattle.lisa_outcomes.specs.Stages.{Finds}
use Rattle.lisa_outcomes.proofs.Finding.{found_ok, found_memory, found_refused}
use Rattle.lisa_outcomes.proofs.Refusals.{schedule_refusal}
use Rattle.lisa_outcomes.proofs.Told.{ok_is_no_err}
use Rattle.engine_commands.specs.Schedules.{IsSchedule, IsNoSchedule}
use Rattle.engine_commands.specs.Unread.{unscheduled_end}

same_lines : (a b : List Line) → ◌≡◌ {A = Result (List Line) ScheduleFault} (Ok a) (Ok b) → a ≡ b
same_lines a b e = cc

-- the schedule was read
pub scheduled : (pins : List Item) (bytes : List ℕ) (lines : List Line) → IsUnlessNoMemory (schedule_of pins bytes) (Ok lines) → Finds (λ (s : List Line). s) (IsSchedule pins bytes) (IsNoSchedule pins bytes) (Ok lines)
scheduled pins bytes lines read = found_ok (λ (s : List Line). s) (IsSchedule pins bytes) (IsNoSchedule pins bytes) lines here
    (λ other is. same_lines lines other (sym here ∙ is)) (λ refusal wrong. ok_is_no_err lines wrong.0 (sym here ∙ wrong.1))
  where
    here : schedule_of pins bytes ≡ Ok lines
    here = ⊎_elim (λ same. sym same) (λ memory. absurd (ok_is_no_err lines _ memory)) read

-- the end is want of memory, or the fault is the refusal
unscheduled_is : (f : ScheduleFault) → (unscheduled_end f ≡ ends.NoMemory) ⊎ ((unscheduled_end f ≡ ends.Refused (refusals.Schedule f)) × (f ≡ schedules.NoMemory → ⊥))
unscheduled_is schedules.NoMemory = inl refl
unscheduled_is (schedules.BadLine line) = inr (refl, λ e. absurd (cc))
unscheduled_is (schedules.UnknownPin line name) = inr (refl, λ e. absurd (cc))
unscheduled_is (schedules.NotRising line) = inr (refl, λ e. absurd (cc))
unscheduled_is (schedules.PinRange line name value) = inr (refl, λ e. absurd (cc))

same_fault : (a b : ScheduleFault) → ◌≡◌ {A = Result (List Line) ScheduleFault} (Err a) (Err b) → a ≡ b
same_fault a b e = cc

-- it wasn't
pub unscheduled : (pins : List Item) (bytes : List ℕ) (f : ScheduleFault) → IsUnlessNoMemory {T = List Line} (schedule_of pins bytes) (Err f)
    → Finds (λ (s : List Line). s) (IsSchedule pins bytes) (IsNoSchedule pins bytes) (Err (unscheduled_end f))
unscheduled pins bytes f read = ⊎_elim
    (λ m. subst (λ (e : End). Finds (λ (s : List Line). s) (IsSchedule pins bytes) (IsNoSchedule pins bytes) (Err e)) (sym m) (found_memory (λ (s : List Line). s) (IsSchedule pins bytes) (IsNoSchedule pins bytes)))
    (λ r. subst (λ (e : End). Finds (λ (s : List Line). s) (IsSchedule pins bytes) (IsNoSchedule pins bytes) (Err e)) (sym r.0)
    (found_refused (λ (s : List Line). s) (IsSchedule pins bytes) (IsNoSchedule pins bytes) (refusals.Schedule f) (schedule_refusal f r.1) (f, here r.1, refl) (λ lines is. ok_is_no_err lines f (sym is ∙ here r.1))))
    (unscheduled_is f)
  where
    here : (f ≡ schedules.NoMemory → ⊥) → schedule_of pins bytes ≡ Err f
    here other = ⊎_elim (λ same. sym same) (λ memory. absurd (other (same_fault _ _ memory))) read
