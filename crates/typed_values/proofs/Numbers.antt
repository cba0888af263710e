-- The type of a number holds it.
use Rattle.std.proofs.Common.{◌≡◌, ◌≤◌, ◌<◌, ◌+◌, ◌^◌, ℕ, Bool, true, false, cond, nat_lt, max, refl, subst, arith}
use Rattle.std.proofs.Math.Pow.{pow_mono}
use Rattle.std.proofs.lemmas.Nat.{leading_length}
use Rattle.std.proofs.lemmas.Bool.Decides.{nat_tests}
use Rattle.lisa_words.specs.declared.words.Kind.{Kind}
use Rattle.lisa_words.specs.declared.words.Kind.TheVariants as kinds
use Rattle.lisa_tree.specs.declared.tokens.Shape.{Shape}
use Rattle.description_types.specs.Shapes.{digit_count, number_shape, shape_of}

pub record Holds (shape : Shape) (value : ℕ) : Type 0 where
  pub least : 1 ≤ shape.width
  pub most : shape.width ≤ 64
  pub fits : value < 2 ^ shape.width

pub digits_hold : (v : ℕ) → v < 2 ^ 64 → (digit_count v ≤ 64) × (v < 2 ^ digit_count v)
digits_hold v h =
    let l = leading_length 64 v h in
    let e : l.0 ≡ digit_count v = let a = l.1 in omega (arith, a) in
    (let a = l.1 in omega (arith, a), subst (λ (m : ℕ). v < 2 ^ m) e l.2)

held_by : (v n : ℕ) → v < 2 ^ 64 → digit_count v ≤ n → v < 2 ^ n
held_by v n h more =
    let a : v < 2 ^ digit_count v = (digits_hold v h).1 in
    let b : 2 ^ digit_count v ≤ 2 ^ n = pow_mono more in
    omega (arith, a, b)

signed_holds : (v : ℕ) (b : Bool) → nat_lt (digit_count v) 64 ≡ b → v < 2 ^ 64 → Holds (cond b (shape_of kinds.Signed (digit_count v + 1)) (shape_of kinds.Unsigned 64)) v
signed_holds v true e h =
    let less : digit_count v < 64 = grind (arith, nat_tests) in
    record { least = omega arith; most = omega (arith, less); fits = held_by v (digit_count v + 1) h (omega arith) }
signed_holds v false e h = record { least = omega arith; most = omega arith; fits = h }

pub number_holds : (kind : Kind) (v : ℕ) → v < 2 ^ 64 → Holds (number_shape kind v) v
number_holds kinds.Unsigned v h =
    let most : digit_count v ≤ 64 = (digits_hold v h).0 in
    record { least = grind arith; most = grind (arith, most); fits = held_by v (max 1 (digit_count v)) h (grind arith) }
number_holds kinds.Signed v h = signed_holds v (nat_lt (digit_count v) 64) refl h
