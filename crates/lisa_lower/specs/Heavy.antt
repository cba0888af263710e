-- When a description is too heavy to be lowered.
use Rattle.std.specs.Prelude.{codes, ℕ, ◌≡◌, ◌<◌, ◌^◌, ◌-◌, min}
use Rattle.lisa_tree.specs.Descriptions.{DescriptionTree}
use Rattle.module_sizes.specs.description_weight.Weights.{weight}
use Rattle.step_program.specs.declared.faults.LowerFault.{LowerFault}
use Rattle.step_program.specs.declared.faults.LowerFault.TheVariants as faults

-- a heavier description isn't lowered
abbrev pub weight_limit : ℕ
weight_limit = 50000

-- the refusal of a description by its weight, which is told as 2 ^ 64 - 1 where it is more than that
pub record IsTooHeavy (d : DescriptionTree) (fault : LowerFault) : Type 0 where
  pub heavy : weight_limit < weight d
  pub is : fault ≡ faults.TooMany (codes "weight") (min (weight d) (2 ^ 64 - 1)) weight_limit
