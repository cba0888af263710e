-- Numbers whose size is below a bound.
use Rattle.std.proofs.Common.{◌≡◌, ◌≤◌, ◌-◌, ◌*◌, ◌^◌, ℕ, ℤ, pos, true, arith}
use Rattle.std.specs.Prelude.{◌≤ℤ◌, ◌<ℤ◌, ◌-ℤ◌, int_le, int_lt, nat_le}
use Rattle.std.specs.Int.Signed.{le_z_yes, lt_z_yes}
use Rattle.std.proofs.Math.Pow.{pow_mono}
use Rattle.std.proofs.lemmas.Int.{ints}
use Rattle.lisa_object.specs.declared.parts.FixKind.{FixKind}
use Rattle.lisa_object.specs.declared.parts.FixKind.TheVariants as kinds
use Rattle.object_links.specs.LinkFaults.{in_range}
use Rattle.std.proofs.lemmas.Bool.{and_parts, leb-true}
use Rattle.std.proofs.lemmas.Float.{T_from_true}
use Rattle.asm_source.specs.Numbers.{IsShort}
use Rattle.asm_source.specs.Plain.{PlainSum}
use Rattle.lisa_object.specs.ObjectRules.{is_within, is_sum}
use Rattle.std.specs.Prelude.{length}

pub short_within : (k : ℕ) (v : ℤ) → is_within (k * (2 ^ 64 - 1)) v ≡ true → IsShort k v
short_within k v e =
    let p = and_parts (int_le (pos 0 -ℤ pos (k * (2 ^ 64 - 1))) v) (int_le v (pos (k * (2 ^ 64 - 1)))) e in
    (le_z_yes (T_from_true (int_le (pos 0 -ℤ pos (k * (2 ^ 64 - 1))) v) p.0), le_z_yes (T_from_true (int_le v (pos (k * (2 ^ 64 - 1)))) p.1))

pub sum_short : (s : PlainSum) → is_sum s ≡ true → IsShort 8 s.constant
sum_short s e = short_within 8 s.constant (and_parts (is_within (8 * (2 ^ 64 - 1)) s.constant) (nat_le (length s.terms) 8) e).0

pub sum_terms : (s : PlainSum) → is_sum s ≡ true → length s.terms ≤ 8
sum_terms s e = leb-true (length s.terms) 8 (and_parts (is_within (8 * (2 ^ 64 - 1)) s.constant) (nat_le (length s.terms) 8) e).1

-- a value in the range of any kind
pub record IsRanged (width : ℕ) (v : ℤ) : Type 0 where
  pub low : (pos 0 -ℤ pos (2 ^ (width - 1))) ≤ℤ v
  pub high : v <ℤ pos (2 ^ width)

le_from : (a b : ℤ) → int_le a b ≡ true → a ≤ℤ b
le_from a b e = le_z_yes (T_from_true (int_le a b) e)

lt_from : (a b : ℤ) → int_lt a b ≡ true → a <ℤ b
lt_from a b e = lt_z_yes (T_from_true (int_lt a b) e)

half_below : (width : ℕ) → 2 ^ (width - 1) ≤ 2 ^ width
half_below width = pow_mono {i = width - 1} {j = width} (omega arith)

pub ranged : (kind : FixKind) (width : ℕ) (v : ℤ) → in_range kind width v ≡ true → IsRanged width v
ranged kinds.Unsigned width v e =
    let p = and_parts (int_le (pos 0) v) (int_lt v (pos (2 ^ width))) e in
    let low : pos 0 ≤ℤ v = le_from (pos 0) v p.0 in
    record { low = omega (arith, ints, low); high = lt_from v (pos (2 ^ width)) p.1 }
ranged kinds.Signed width v e =
    let p = and_parts (int_le (pos 0 -ℤ pos (2 ^ (width - 1))) v) (int_lt v (pos (2 ^ (width - 1)))) e in
    let high : v <ℤ pos (2 ^ (width - 1)) = lt_from v (pos (2 ^ (width - 1))) p.1 in
    let half : 2 ^ (width - 1) ≤ 2 ^ width = half_below width in
    record { low = le_from (pos 0 -ℤ pos (2 ^ (width - 1))) v p.0; high = omega (arith, ints, high, half) }
ranged kinds.Whole width v e =
    let p = and_parts (int_le (pos 0 -ℤ pos (2 ^ (width - 1))) v) (int_lt v (pos (2 ^ width))) e in
    record { low = le_from (pos 0 -ℤ pos (2 ^ (width - 1))) v p.0; high = lt_from v (pos (2 ^ width)) p.1 }
