-- Numbers of so many bits are below greater powers of two.
use Rattle.std.proofs.Common.{◌≡◌, ℕ, ◌^◌, ◌<◌, ◌≤◌, nat_eq, nat_le, nat_lt, sym, ◌∙◌, arith}
use Rattle.std.proofs.lemmas.Bool.{le-ltb, lt-ltb, le-leb, ne_eqb}
use Rattle.std.proofs.Math.Nat.{pow-le-pow_right}

pub no_power : (d w : ℕ) → d < 2 ^ 32 → 32 ≤ w → nat_lt w 32 ≡ nat_eq d (2 ^ w)
no_power d w small le =
    let far : 2 ^ 32 ≤ 2 ^ w = pow-le-pow_right {n = 2} (omega arith) le in
    le-ltb w 32 le ∙ sym (ne_eqb d (2 ^ w) (λ e. absurd (omega (arith, e, far, small))))

pub within_64 : (v w : ℕ) → 64 ≤ w → v < 2 ^ 64 → nat_le 64 w ≡ nat_lt v (2 ^ w)
within_64 v w le small =
    let far : 2 ^ 64 ≤ 2 ^ w = pow-le-pow_right {n = 2} (omega arith) le in
    let less : v < 2 ^ w = omega (arith, far, small) in
    le-leb 64 w le ∙ sym (lt-ltb v (2 ^ w) less)
