-- A recursion by size meets its own equation, whatever its step does.
use Rattle.std.proofs.Common.{◌≡◌, ℕ, zero, suc, ◌<◌, refl, ap, inl, inr, arith}
use Rattle.std.proofs.lemmas.Bool.{cases_lt, lt-ltb, le-ltb}
use Rattle.lisa_words.specs.Fix.{guarded, within, fix}

same_functions : {W Out : Type 0} (f g : W → Out) → ((v : W) → f v ≡ g v) → f ≡ g
same_functions f g h = λ i. λ v. h v i

module _ {W Out : Type 0} (size : W → ℕ) (fail : Out) (step : (W → Out) → W → Out) where
  same_guarded : (f g : W → Out) (w : W) → ((v : W) → size v < size w → f v ≡ g v) → guarded size fail f w ≡ guarded size fail g w
  same_guarded f g w h = same_functions (guarded size fail f w) (guarded size fail g w) (λ v.
      elim (cases_lt (size v) (size w)) [
        | inl lt ↦ rw (lt-ltb (size v) (size w) lt) (h v lt)
        | inr le ↦ rw (le-ltb (size v) (size w) le) refl
      ])

  -- calls enough give one answer
  agree : (f g : ℕ) (w : W) → size w < f → size w < g → within size fail step f w ≡ within size fail step g w
  unfolding within
  agree zero g w lt lt' = absurd (omega arith)
  agree (suc f) zero w lt lt' = absurd (omega arith)
  agree (suc f) (suc g) w lt lt' = ap (λ (k : W → Out). step k w) (same_guarded (within size fail step f) (within size fail step g) w (λ v less. agree f g v (omega arith) (omega arith)))

  pub fix_is : (w : W) → fix size fail step w ≡ step (guarded size fail (fix size fail step) w) w
  unfolding within fix
  fix_is w = ap (λ (k : W → Out). step k w) (same_guarded (within size fail step (size w)) (fix size fail step) w (λ v less. agree (size w) (suc (size v)) v (omega arith) (omega arith)))
