-- One turn of a loop.
use Rattle.std.proofs.Common.{◌≡◌, ℕ, suc, ◌+◌, ◌-◌, ◌*◌, ◌<◌, sym, ap, ◌∙◌, arith}
use Rattle.shape_checks.specs.declared.bounds.Bounds.{Bounds}
use Rattle.typed_values.specs.Effects.{turned}

one_less : (n k : ℕ) → k < n → n - k ≡ suc (n - (k + 1))
one_less n k h = omega arith

pub turn_more : {M : Type 0} (turn : ℕ → M → M) (b : Bounds) (k n : ℕ) (now new end : M) → k < n → turned turn b k (n - k) now ≡ end → new ≡ turn (b.first + k * b.step) now → turned turn b (k + 1) (n - (k + 1)) new ≡ end
turn_more turn b k n now new end h is e =
    ap (λ m. turned turn b (k + 1) (n - (k + 1)) m) e ∙ ap (λ left. turned turn b k left now) (sym (one_less n k h)) ∙ is
