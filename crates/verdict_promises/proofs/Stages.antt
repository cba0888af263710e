-- The stages of commands over a description, by its bytes.
use Rattle.std.proofs.Common.{◌≡◌, ◌↔◌, ◌⊎◌, ℕ, List, [], sym, subst, ⊎_elim, inl, inr}
use Rattle.lisa_tree.specs.declared.faults.DescFault.{DescFault}
use Rattle.lisa_tree.specs.Descriptions.{DescriptionTree}
use Rattle.lisa_tree.specs.Texts.{SpellsText}
use Rattle.lisa_outcomes.specs.declared.status.Refusal.{Refusal}
use Rattle.lisa_outcomes.specs.declared.status.Refusal.TheVariants as refusals
use Rattle.lisa_outcomes.specs.Outcomes.{Outcome, After, passed, stopped, Refusing}
use Rattle.checked_descriptions.specs.Checked.{Checked, IsChecked, IsFaulty, AfterChecks}
use Rattle.checked_descriptions.specs.Descriptions.{IsUnread, AfterSpelling}
use Rattle.verdict_promises.specs.Firsts.{IsAcceptedAs, IsFirstFaultOf, unread, refused, IsRefusedFirst}

-- ---- each step

accepted_as : (bytes : List ℕ) (d : DescriptionTree) (c : Checked) → SpellsText bytes d → IsChecked d c → IsAcceptedAs bytes c
accepted_as bytes d c s is = record { spelled = subst (SpellsText bytes) (sym is.tree) s; checked = subst (λ (z : DescriptionTree). IsChecked z c) (sym is.tree) is }

pub found_as : (bytes : List ℕ) (d : DescriptionTree) (c : Checked) → (SpellsText bytes d × IsChecked d c) ↔ (IsAcceptedAs bytes c × (c.tree ≡ d))
found_as bytes d c = (
  λ (x : SpellsText bytes d × IsChecked d c). (accepted_as bytes d c x.0 x.1, x.1.tree),
  λ (x : IsAcceptedAs bytes c × (c.tree ≡ d)). (subst (SpellsText bytes) x.1 x.0.spelled, subst (λ (z : DescriptionTree). IsChecked z c) x.1 x.0.checked),
)

abbrev Wrong : List ℕ → Refusal → Type 0
Wrong bytes refusal = IsUnread bytes refusal ⊎ ((d : DescriptionTree) × SpellsText bytes d × IsFaulty d refusal)

wrong_first : (bytes : List ℕ) (refusal : Refusal) (f : DescFault) → IsFirstFaultOf bytes f → refusal ≡ refusals.Description f → Wrong bytes refusal
wrong_first bytes refusal f (unread b) e = inl (f, b, e)
wrong_first bytes refusal f (refused d s x) e = inr (d, s, (f, x, e))

pub refused_as : (bytes : List ℕ) (refusal : Refusal) → Wrong bytes refusal ↔ IsRefusedFirst bytes refusal
refused_as bytes refusal = (
  λ (x : Wrong bytes refusal). ⊎_elim (λ u. (u.0, unread u.1, u.2)) (λ y. (y.2.0, refused y.0 y.1 y.2.1, y.2.2)) x,
  λ (x : IsRefusedFirst bytes refusal). wrong_first bytes refusal x.0 x.1 x.2,
)

-- ---- both together

module _ (bytes : List ℕ) (Then : Checked → Outcome → Type 0) where
  abbrev Both : Outcome → Type 0
  Both outcome = AfterSpelling bytes (λ d. AfterChecks d Then) outcome

  abbrev One : Outcome → Type 0
  One outcome = After (IsAcceptedAs bytes) (IsRefusedFirst bytes) Then outcome

  joined_checks : (d : DescriptionTree) → SpellsText bytes d → (outcome : Outcome) → AfterChecks d Then outcome → One outcome
  joined_checks d s outcome (passed {a = c} is then) =
      passed {a = c} (accepted_as bytes d c s is) then
  joined_checks d s outcome (stopped w) = stopped (w.0, refused d s w.1, w.2)

  joined : (outcome : Outcome) → Both outcome → One outcome
  joined outcome (passed {a = d} s checks) = joined_checks d s outcome checks
  joined outcome (stopped u) = stopped (u.0, unread u.1, u.2)

  parted_first : (refusal : Refusal) (f : DescFault) → IsFirstFaultOf bytes f → refusal ≡ refusals.Description f → Both (Refusing refusal [])
  parted_first refusal f (unread b) e = stopped (f, b, e)
  parted_first refusal f (refused d s x) e = passed {a = d} s (stopped (f, x, e))

  parted : (outcome : Outcome) → One outcome → Both outcome
  parted outcome (passed {a = c} is then) = passed {a = c.tree} is.spelled (passed {a = c} is.checked then)
  parted outcome (stopped {refusal = refusal} w) = parted_first refusal w.0 w.1 w.2

  pub stages : (outcome : Outcome) → Both outcome ↔ One outcome
  stages outcome = (joined outcome, parted outcome)
