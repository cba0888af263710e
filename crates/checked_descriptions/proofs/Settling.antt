-- What follows from rules is one value.
use Rattle.std.proofs.Common.{◌≡◌, ◌∙◌, ℕ, Option, None, Some, refl, sym, ap}
use Rattle.std.proofs.lemmas.Option.{same_Some}
use Rattle.least_fixed_points.specs.Settles.{Settles, settled, IsMonotone, IsWithin}

-- a table's entry, or that of another where it has none
abbrev either : {T : Type 0} → Option T → Option T → Option T
either (Some t) other = Some t
either None other = other

module _ {T : Type 0} (step : (ℕ → Option T) → ℕ → Option T) (monotone : IsMonotone step) where
  left : (known other : ℕ → Option T) → IsWithin known (λ b. either (known b) (other b))
  left known other b u e = ap (λ (x : Option T). either x (other b)) e

  right : (known other : ℕ → Option T) → ((b : ℕ) (t u : T) → known b ≡ Some t → other b ≡ Some u → t ≡ u) → IsWithin other (λ b. either (known b) (other b))
  right known other same b u e = by (known b) refl
    where
      by : (x : Option T) → known b ≡ x → either (known b) (other b) ≡ Some u
      by None is = ap (λ (x : Option T). either x (other b)) is ∙ e
      by (Some t) is = ap (λ (x : Option T). either x (other b)) is ∙ ap (λ (z : T). Some z) (same b t u is e)

  pub one_value : (a : ℕ) (t u : T) → Settles step a t → Settles step a u → t ≡ u
  one_value a t u (settled known from is) (settled other more is') =
      same_Some t u (sym (monotone known (λ b. either (known b) (other b)) (left known other) a t is)
      ∙ monotone other (λ b. either (known b) (other b)) (right known other (λ b x y e f. one_value b x y (from b x e) (more b y f))) a u is')
