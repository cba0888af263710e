use Rattle.std.proofs.Common.{ℕ, ◌≡◌, ◌*◌, ◌%◌, ◌^◌, ◌≤◌, sym, arith}
use Rattle.std.proofs.Math.Nat.{mod-eq_of_lt}
use Rattle.std.proofs.Math.Pow.{pow_mono}
use Rattle.code_lines.proofs.counts.word_of.Goals as goal

-- a number of 64 bits is within any longer width
whole : (x w : ℕ) → 64 ≤ w → x % 2 ^ 64 ≡ x % 2 ^ 64 % 2 ^ w
whole x w h = sym (mod-eq_of_lt (omega (arith, pow_mono h)))

pub returns-else-width-lt64 : goal.returns-else-width-lt64
returns-else-width-lt64 c = whole (c.args.number * 11400714819323198485) c.args.width c.if-width-lt64.false
