-- Several edges in a row, with the values of a schedule.
use Rattle.std.proofs.Common.{◌≡◌, ℕ, suc, ◌+◌, List, [], ◌∷◌, ◌++◌, length, take, refl, sym, ap, ◌∙◌, subst, arith}
use Rattle.lisa_engine.specs.State.{State}
use Rattle.lisa_engine.specs.ScheduleLine.{Line}
use Rattle.lisa_engine.specs.Shape.{IsFitting, AreEntries}
use Rattle.lisa_engine.specs.Machines.{Machine, course_of, entries_to, state_at}
use Rattle.lisa_engine.specs.PinValues.{after_lines, pins_at, pin_values, IsPlaceAfter, IsFor}
use Rattle.lisa_engine.proofs.Played.{values_at, entries_fit, pins_fit}

-- an engine `now` that came from the engine `first` by the schedule's edges `from + 1` to `edge`
pub record Led {D : Type 0} (present : D → State) (machine : D → Machine) (first now : D) (lines : List Line) (from edge : ℕ) : Type 0 where
  pub leads : present first ≡ state_at (course_of (machine first) lines) from → present now ≡ state_at (course_of (machine first) lines) edge
  pub kept : machine now ≡ machine first

-- the values of the pins in an edge, after playing the lines up to a place
pub record ArePlayed (lines : List Line) (count edge next : ℕ) (given : List ℕ) : Type 0 where
  pub place : IsPlaceAfter lines edge next
  pub values : given ≡ after_lines count (take next lines)

pub values_more : (count : ℕ) (lines : List Line) (n : ℕ) → pin_values count lines (n + 1) ≡ pin_values count lines n ++ pins_at count lines (n + 1) ∷ []
values_more count lines n = let e : n + 1 ≡ suc n = omega arith in subst (λ m. pin_values count lines m ≡ pin_values count lines n ++ pins_at count lines m ∷ []) (sym e) refl

module _ {D : Type 0} (present : D → State) (machine : D → Machine) (first now next : D) (lines : List Line) (from edge place : ℕ) (values : List ℕ)
    (led : Led present machine first now lines from edge) (for : IsFor (machine first).pins lines) (played : ArePlayed lines (length (machine first).pins) (edge + 1) place values) where
  values_are : values ≡ pins_at (length (machine first).pins) lines (edge + 1)
  values_are = played.values ∙ values_at (length (machine first).pins) lines (edge + 1) place played.place

  -- the values fit the pins of the present engine
  pub fit_now : IsFitting (machine now).pins values
  fit_now = subst (λ m. IsFitting m.pins values) (sym led.kept) (subst (IsFitting (machine first).pins) (sym values_are) (pins_fit (machine first).pins lines (edge + 1) for))

  pub led_more : ((l : List (List ℕ)) → AreEntries (machine now).pins l → present now ≡ (machine now).defined l → present next ≡ (machine next).defined (l ++ values ∷ []))
      → machine next ≡ machine now → Led present machine first next lines from (edge + 1)
  led_more step same = record {
    leads = λ at. step before entries (led.leads at ∙ ap (λ m. m.defined before) (sym led.kept)) ∙ ap (λ m. m.defined (before ++ values ∷ [])) (same ∙ led.kept) ∙ ap (machine first).defined more;
    kept = same ∙ led.kept;
  }
    where
      before : List (List ℕ)
      before = entries_to (course_of (machine first) lines) edge

      entries : AreEntries (machine now).pins before
      entries = subst (λ m. AreEntries m.pins before) (sym led.kept) (entries_fit (machine first).pins lines edge for)

      more : before ++ values ∷ [] ≡ entries_to (course_of (machine first) lines) (edge + 1)
      more = ap (λ v. before ++ v ∷ []) values_are ∙ sym (values_more (length (machine first).pins) lines edge)
