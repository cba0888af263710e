-- One bit for each of eight stages.
use Rattle.std.proofs.Common.{◌≡◌, ℕ, ◌*◌, ◌%◌, ◌^◌, ◌<◌, ◌||◌, sym, ap, ◌∙◌, ⊎_elim, arith, nat_eq}
use Rattle.std.specs.Prelude.{bit_or}
use Rattle.std.proofs.lemmas.Bool.{eq-eqb, ne_eqb, cases_eq}
use Rattle.std.proofs.lemmas.Nat.{pow_below}
use Rattle.std.proofs.lemmas.Nat.Bits.{bit_at-pow_same, bit_at-pow_other}
use Rattle.std.proofs.Math.Nat.{mod-eq_of_lt, one-mul}
use Rattle.activation_bits.specs.Members.{has}
use Rattle.activation_bits.proofs.HasBits.{has_or}

has_one : (k bit : ℕ) → has (2 ^ k) bit ≡ nat_eq bit k
has_one k bit =
    ⊎_elim
    (λ e. ap (λ j. has (2 ^ k) j) e ∙ ap (λ m. nat_eq m 1) (bit_at-pow_same k) ∙ sym (eq-eqb bit k e))
    (λ e. ap (λ m. nat_eq m 1) (bit_at-pow_other k bit e) ∙ sym (ne_eqb bit k e))
    (cases_eq bit k)

has_single : (k bit : ℕ) → k < 8 → has (1 * 2 ^ k % 2 ^ 8) bit ≡ nat_eq bit k
has_single k bit h =
    let small : 1 * 2 ^ k < 2 ^ 8 = omega (arith, pow_below k 8 h) in
    ap (λ n. has n bit) (mod-eq_of_lt small ∙ one-mul (2 ^ k)) ∙ has_one k bit

pub has_with : (stages stage other : ℕ) → stage < 8 → has (bit_or stages (1 * 2 ^ stage % 2 ^ 8)) other ≡ (has stages other || nat_eq other stage)
has_with stages stage other h = has_or stages (1 * 2 ^ stage % 2 ^ 8) other ∙ ap (λ b. has stages other || b) (has_single stage other h)
