-- Values that are no wider than so many bits.
use Rattle.std.proofs.Common.{ℕ, ◌/◌, ◌^◌, ◌<◌, ◌≤◌, ◌≡◌, ◌*◌, Bool, true, false, nat_eq, IsTrue, arith}
use Rattle.std.proofs.lemmas.Bool.Decides.{nat_tests}
use Rattle.std.proofs.Math.Nat.{div-lt_iff_lt-mul}
use Rattle.std.proofs.Math.Pow.{pow_mono}

is_zero : (n : ℕ) → nat_eq n 0 ≡ true → n < 1
is_zero n h = grind (arith, nat_tests)

zero_is : (n : ℕ) → n < 1 → nat_eq n 0 ≡ true
zero_is n h = grind (arith, nat_tests)

some_power : (k : ℕ) → 0 < 2 ^ k
some_power k = pow_mono {i = 0} {j = k} (omega arith)

-- nothing is left of it above those bits
pub narrow : (n k : ℕ) → (IsTrue (nat_eq (n / 2 ^ k) 0) → n < 2 ^ k) × (n < 2 ^ k → IsTrue (nat_eq (n / 2 ^ k) 0))
narrow n k =
    let test = div-lt_iff_lt-mul {k = 2 ^ k} {x = n} {y = 1} (some_power k) in
    ((λ e. (let h : n < 1 * 2 ^ k = test.0 (is_zero (n / 2 ^ k) e) in omega (arith, h))), (λ h. zero_is (n / 2 ^ k) (test.1 (let e : n < 1 * 2 ^ k = omega (arith, h) in e))))

pub always : (n k : ℕ) → n < 2 ^ 64 → 64 ≤ k → n < 2 ^ k
always n k h le = let more : 2 ^ 64 ≤ 2 ^ k = pow_mono le in omega (arith, h, more)
