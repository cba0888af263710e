-- Instructions have a width exactly where there is a root.
use Rattle.std.proofs.Common.{◌≡◌, ℕ, false, Option, None, Some, refl, inl, inr}
use Rattle.std.proofs.lemmas.Bool.{cases_Bool}
use Rattle.lisa_tree.specs.Descriptions.{DescriptionTree}
use Rattle.lisa_tree.specs.Operations.{is_root}
use Rattle.form_promises.specs.lisa_machine.Verdicts.{IsAccepted}
use Rattle.form_patterns.specs.instruction_forms.Widths.{HasWidth}
use Rattle.form_promises.proofs.lisa_machine_proofs.Sound.{sound}
use Rattle.form_promises.proofs.Rooted.{root_chosen, without_root}

module _ (d : DescriptionTree) where
  pub no_root : IsAccepted d → (width : Option ℕ) → HasWidth d width → width ≡ None → (o : ℕ) → is_root d o ≡ false
  no_root accepted (Some w) has e o = absurd (cc e)
  no_root accepted None has e o = elim (cases_Bool (is_root d o)) [
    | inl root ↦ (let chosen = root_chosen d (sound d accepted) o root in absurd (cc (has, chosen.1)))
    | inr other ↦ other
  ]

  pub no_width : (width : Option ℕ) → HasWidth d width → ((o : ℕ) → is_root d o ≡ false) → width ≡ None
  no_width None has none = refl
  no_width (Some w) has none = (let nothing = without_root d none in absurd (cc (has.1, nothing)))
