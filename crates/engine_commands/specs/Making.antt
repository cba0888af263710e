-- Machines that are made with the memories of an image.
use Rattle.std.specs.Prelude.{ℕ, ◌≡◌, List, Option, None, Some, Result, Err, IfOk, OnOk}
use Rattle.lisa_engine.specs.Memory.{Memory}
use Rattle.lisa_engine.specs.Images.{missing_memory}
use Rattle.lisa_engine.specs.declared.image.MakeFault.{MakeFault}
use Rattle.lisa_engine.specs.declared.image.MakeFault.TheVariants as makes
use Rattle.lisa_outcomes.specs.Outcomes.{Outcome, After}
use Rattle.engine_commands.specs.declared.tasks.Task.{Task}
use Rattle.engine_commands.specs.Images.{IsMissing}
use Rattle.lisa_engine.specs.Machines.{Machine}
use Rattle.engine_commands.specs.Tasks.{GivesUnder, IsCutUnder}

-- the machine that is wanted, each of whose memories is an array of it
abbrev pub IsMade : Machine → List Memory → Machine → Type 0
IsMade wanted memories machine = (missing_memory wanted.arrays memories ≡ None) × (machine ≡ wanted)

-- what a task gives over it, under the bytes of the third file; the first memory that is none of its arrays is the refusal
abbrev pub GivesMade : Task → Machine → List Memory → (third input : List ℕ) → Outcome → Type 0
GivesMade task wanted memories third input =
    After (IsMade wanted memories) (IsMissing wanted.arrays memories) (λ machine. GivesUnder task machine third input)

-- the input failed in a task over it
pub record IsCutMade (task : Task) (wanted : Machine) (memories : List Memory) (third : List ℕ) (left rest before after : Option (List ℕ)) : Type 0 where
  pub found : missing_memory wanted.arrays memories ≡ None
  pub cut : IsCutUnder task wanted third left rest before after

-- ---- in code

-- an engine of this machine was made, or a memory was missing
pub record Makes {E : Type 0} (view : E → Machine) (wanted : Machine) (memories : List Memory) (made : Result E MakeFault) : Type 0 where
  pub is : IfOk made (λ e. view e ≡ wanted)
  pub found : OnOk made (missing_memory wanted.arrays memories ≡ None)
  pub missing : (name : List ℕ) → made ≡ Err (makes.NoSuchMemory name) → missing_memory wanted.arrays memories ≡ Some name
