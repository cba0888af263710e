-- Where stalls and flushes of a stage may stand.
use Rattle.std.specs.Prelude.{ℕ, Bool, false, List, Option, None, Some, cond, nat_lt, ◌||◌, codes}
use Rattle.lisa_tree.specs.Descriptions.{DescriptionTree}
use Rattle.lisa_tree.specs.declared.faults.DescFault.{DescFault}
use Rattle.lisa_tree.specs.declared.faults.DescFault.TheVariants as faults
use Rattle.description_places.specs.Places.{Stalls, Flushes, Condition}
use Rattle.lisa_tree.specs.Same.{same_name}
use Rattle.lisa_tree.specs.Resources.{stage_at}
use Rattle.lisa_tree.specs.Operations.{name_at, own_stage}

-- the names that say when an operation runs
abbrev pub main_name : List ℕ
main_name = codes "main"

abbrev pub reset_name : List ℕ
reset_name = codes "reset"

-- one stage stands before another
abbrev pub is_before : Option ℕ → Option ℕ → Bool
is_before (Some t) (Some s) = nat_lt t s
is_before (Some t) None = false
is_before None s = false

-- a stage is controlled by `main`, and by the operations of later stages
abbrev pub may_control : DescriptionTree → ℕ → List ℕ → Bool
may_control d o stage = same_name main_name (name_at d o) || is_before (stage_at d stage) (own_stage d o)

abbrev pub refusal : DescriptionTree → ℕ → List ℕ → Option DescFault
refusal d o stage = cond (may_control d o stage) None (Some (faults.Control (name_at d o) stage))

abbrev pub control : DescriptionTree → Condition DescFault
control d o region scope (Stalls pipe stage) = refusal d o stage
control d o region scope (Flushes pipe stage) = refusal d o stage
control d o region scope place = None
