-- The stages that operations have.
use Rattle.std.specs.Prelude.{◌≡◌, ◌<◌, ℕ, true, List, Some, length}
use Rattle.lisa_tree.specs.Descriptions.{DescriptionTree}
use Rattle.lisa_tree.specs.Resources.{stage_at, stages, is_pipeline}
use Rattle.lisa_tree.specs.Operations.{own_stage}

-- the own stage of an operation is one of the pipeline's
pub record IsOwnStage (d : DescriptionTree) (o : ℕ) (pipe stage : List ℕ) : Type 0 where
  pub pipeline : is_pipeline d pipe ≡ true
  pub number : ℕ
  pub is : stage_at d stage ≡ Some number
  pub own : own_stage d o ≡ Some number
  pub low : number < length (stages d)
