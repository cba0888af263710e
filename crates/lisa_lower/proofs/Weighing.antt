-- A weight that is told, and what it says of the weight.
use Rattle.std.proofs.Common.{◌≡◌, ◌≤◌, ◌<◌, ◌-◌, ◌^◌, ◌∙◌, ℕ, List, arith, ap}
use Rattle.std.specs.Prelude.{codes, min}
use Rattle.lisa_tree.specs.Descriptions.{DescriptionTree}
use Rattle.module_sizes.specs.access_counts.Ledgers.{capped}
use Rattle.module_sizes.specs.description_weight.Weights.{weight}
use Rattle.step_program.specs.declared.faults.LowerFault.TheVariants as faults
use Rattle.lisa_lower.specs.Heavy.{weight_limit, IsTooHeavy}

-- one that is low is told as it is
pub low_weight : (told n limit : ℕ) → told ≡ capped n → told ≤ limit → limit < 2 ^ 64 - 1 → n ≤ limit
low_weight told n limit is low most = omega (arith, is, low, most)

high_weight : (told n limit : ℕ) → told ≡ capped n → limit < told → limit < n
high_weight told n limit is high = omega (arith, is, high)

-- what is told of a high one
pub heavy_is : (d : DescriptionTree) (what : List ℕ) (told : ℕ) → weight_limit < told → told ≡ capped (weight d) → what ≡ codes "weight" → IsTooHeavy d (faults.TooMany what told weight_limit)
heavy_is d what told high is name = record {
  heavy = high_weight told (weight d) weight_limit is high;
  is = ap (λ (w : List ℕ). faults.TooMany w told weight_limit) name ∙ ap (λ (n : ℕ). faults.TooMany (codes "weight") n weight_limit) is;
}
