-- A recursion by size meets its own equation, whatever its step does.
use Rattle.std.proofs.Common.{◌≡◌, ℕ, zero, suc, ◌<◌, refl, ap, inl, inr, arith}
use Rattle.std.proofs.lemmas.Bool.{cases_lt, lt-ltb, le-ltb}
use Rattle.lisa_words.specs.FixEach.{guarded_each, within_each, fix_each}

module _ {W : Type 0} {Out : W → Type 0} (size : W → ℕ) (fail : (w : W) → Out w) (step : ((w : W) → Out w) → (w : W) → Out w) where
  same_guarded : (f g : (w : W) → Out w) (w : W) → ((v : W) → size v < size w → f v ≡ g v) → guarded_each {Out = Out} size fail f w ≡ guarded_each {Out = Out} size fail g w
  same_guarded f g w h = λ i. λ v. each v i
    where
      each : (v : W) → guarded_each {Out = Out} size fail f w v ≡ guarded_each {Out = Out} size fail g w v
      each v =
          elim (cases_lt (size v) (size w)) [
            | inl lt ↦ rw (lt-ltb (size v) (size w) lt) (h v lt)
            | inr le ↦ rw (le-ltb (size v) (size w) le) refl
          ]

  -- calls enough give one answer
  agree : (f g : ℕ) (w : W) → size w < f → size w < g → within_each {Out = Out} size fail step f w ≡ within_each {Out = Out} size fail step g w
  unfolding within_each
  agree zero g w lt lt' = absurd (omega arith)
  agree (suc f) zero w lt lt' = absurd (omega arith)
  agree (suc f) (suc g) w lt lt' = ap (λ (k : (v : W) → Out v). step k w) (same_guarded (within_each {Out = Out} size fail step f) (within_each {Out = Out} size fail step g) w (λ v less. agree f g v (omega arith) (omega arith)))

  pub fix_each_is : (w : W) → fix_each {Out = Out} size fail step w ≡ step (guarded_each {Out = Out} size fail (fix_each {Out = Out} size fail step) w) w
  unfolding within_each fix_each
  fix_each_is w = ap (λ (k : (v : W) → Out v). step k w) (same_guarded (within_each {Out = Out} size fail step (size w)) (fix_each {Out = Out} size fail step) w (λ v less. agree (size w) (suc (size v)) v (omega arith) (omega arith)))
