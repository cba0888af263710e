-- `reset` reads and assigns what it may.
use Rattle.std.proofs.Common.{◌≡◌, ◌||◌, ℕ, List, Option, None, Some, Bool, true, false, cond, not, codes, refl, sym, ap, ◌∙◌, inl, inr}
use Rattle.std.specs.Option.{is_some}
use Rattle.std.specs.Cmp.Lexicographic.{nat_list_eq_equiv}
use Rattle.lisa_tree.specs.Descriptions.{DescriptionTree}
use Rattle.description_places.specs.declared.scopes.Local.{Local}
use Rattle.description_places.specs.declared.sites.Region.{Region}
use Rattle.description_places.specs.Scopes.{Scope, local_named}
use Rattle.description_places.specs.Places as places
use Rattle.description_places.specs.Places.{Place, at}
use Rattle.lisa_tree.specs.Same.{same_name}
use Rattle.lisa_tree.specs.Resources.{resource_at}
use Rattle.lisa_tree.specs.Operations.{name_at}
use Rattle.lisa_tree.specs.Declarations.{declared_at}
use Rattle.lisa_tree.specs.Meanings.{meaning, meaning_of}
use Rattle.lisa_machine.specs.stage_checks.Controls.{reset_name}
use Rattle.lisa_machine.specs.stage_checks.Resets.{means_scalar, may_use, goes_beyond, refused, bad_reset}
use Rattle.lisa_machine.specs.Freedom.{IsFree, Stands}
use Rattle.lisa_machine.specs.Codings.{IsScalar}
use Rattle.lisa_machine.proofs.Among.{free_place}
use Rattle.lisa_machine.proofs.Decoding.{not_off}
use Rattle.use_promises.specs.Resetting.{IsHeld, FitsInReset}

not_refused : (b : Bool) → refused b ≡ None → b ≡ false
not_refused false e = refl
not_refused true e = absurd (cc e)

module _ (d : DescriptionTree) where
  scalar_is : (o : ℕ) (n : List ℕ) → means_scalar d (meaning d o n) ≡ true → IsScalar d o n
  scalar_is o n e = by (declared_at d o n) (resource_at d n) refl refl e
    where
      by : (x y : Option ℕ) → declared_at d o n ≡ x → resource_at d n ≡ y → means_scalar d (meaning_of x y) ≡ true → IsScalar d o n
      by (Some i) y is there f = absurd (cc f)
      by None (Some k) is there f = record { number = k; resource = there; undeclared = is; scalar = f }
      by None None is there f = absurd (cc f)

  held : (o : ℕ) (scope : Scope) (n : List ℕ) → not (may_use d o scope n) ≡ false → IsHeld d o scope n
  held o scope n e = by (local_named n scope) refl (not_off (may_use d o scope n) e)
    where
      by : (r : Option Local) → local_named n scope ≡ r → (is_some r || means_scalar d (meaning d o n)) ≡ true → IsHeld d o scope n
      by (Some l) is f = inl (l, is)
      by None is f = inr (is, scalar_is o n f)

  within : (o : ℕ) (scope : Scope) (place : Place) → goes_beyond d o scope place ≡ false → FitsInReset d o scope place
  within o scope (places.Reads n) e = held o scope n e
  within o scope (places.Writes n) e = held o scope n e
  within o scope (places.Steps n) e = held o scope n e
  within o scope (places.ReadsElement n) e = absurd (cc e)
  within o scope (places.WritesElement n) e = absurd (cc e)
  within o scope (places.ReadsInput field) e = absurd (cc e)
  within o scope (places.ReadsOutput field) e = absurd (cc e)
  within o scope (places.WritesOutput field) e = absurd (cc e)
  within o scope (places.ReadsBoundary pipe before after field) e = absurd (cc e)
  within o scope places.ReadsDecoded e = absurd (cc e)
  within o scope (places.Calls n) e = absurd (cc e)
  within o scope (places.Stalls pipe stage) e = absurd (cc e)
  within o scope (places.Flushes pipe stage) e = absurd (cc e)
  within o scope _ e = tt

  pub reset_within : IsFree (bad_reset d) d → (o : ℕ) (region : Region) (scope : Scope) (place : Place) → name_at d o ≡ codes "reset" → Stands d (at o region scope place) → FitsInReset d o scope place
  reset_within resets o region scope place named s =
      let is : same_name reset_name (name_at d o) ≡ true = ap (same_name reset_name) named ∙ nat_list_eq_equiv.refl reset_name in
      let e = free_place (bad_reset d) d resets _ s in
      let f : refused (goes_beyond d o scope place) ≡ None = sym (ap (λ (b : Bool). cond b (refused (goes_beyond d o scope place)) None) is) ∙ e in
      within o scope place (not_refused (goes_beyond d o scope place) f)
