use Rattle.std.proofs.Common.{◌≡◌, ℕ, ◌<◌, ◌^◌}
use Rattle.verilog_size_checks.proofs.powers.exponent.Given as goal

abbrev pub invariant-powers : goal.invariant-powers
invariant-powers l = (j : ℕ) → j < l.k → 2 ^ j ≡ l.depth → ⊥
