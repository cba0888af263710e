-- What a shift by a width says.
use Rattle.std.proofs.Common.{◌≡◌, ℕ, ◌/◌, ◌^◌, ◌<◌, ◌≤◌, false, nat_eq, sym, ap, ◌∙◌, arith, ⊎_elim}
use Rattle.std.specs.Prelude.{nat_le, not}
use Rattle.std.proofs.Math.Nat.{div-eq_of_lt, le-div_iff_mul-le}
use Rattle.std.proofs.Math.Pow.{pow_mono}
use Rattle.std.proofs.lemmas.Bool.{cases_lt, eq-eqb, ne_eqb, le-leb, lt-leb}
use Rattle.std.proofs.lemmas.Nat.{pow_pos}

pub shifted_out : (value width : ℕ) → not (nat_eq (value / 2 ^ width) 0) ≡ nat_le (2 ^ width) value
shifted_out value width = ⊎_elim
    (λ l. let none : value / 2 ^ width ≡ 0 = div-eq_of_lt l in ap not (eq-eqb (value / 2 ^ width) 0 none) ∙ sym (lt-leb (2 ^ width) value l))
    (λ l. let some : 0 < value / 2 ^ width = (le-div_iff_mul-le {k = 2 ^ width} {x = 1} {y = value} (pow_pos width)).1 (omega arith) in ap not (ne_eqb (value / 2 ^ width) 0 (λ e. absurd (omega arith))) ∙ sym (le-leb (2 ^ width) value l))
    (cases_lt value (2 ^ width))

pub all_fit : (value width : ℕ) → value < 2 ^ 64 → 64 ≤ width → false ≡ nat_le (2 ^ width) value
all_fit value width small wide = let more : 2 ^ 64 ≤ 2 ^ width = pow_mono wide in sym (lt-leb (2 ^ width) value (omega arith))
