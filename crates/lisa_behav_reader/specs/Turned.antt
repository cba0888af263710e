-- The fault that is answered where something was missed.
use Rattle.std.specs.Prelude.{◌≡◌, ℕ}
use Rattle.lisa_tree.specs.declared.faults.DescFault.{DescFault}
use Rattle.lisa_tree.specs.declared.faults.DescFault.TheVariants as faults
use Rattle.lisa_behav_reader.specs.declared.misses.Missed.{Missed}
use Rattle.lisa_behav_reader.specs.declared.misses.Missed.TheVariants as misses

-- want of memory stays that, and anything else is fault 5
abbrev pub Turned : Missed → DescFault → Type 0
Turned misses.NoMemory fault = fault ≡ faults.NoMemory
Turned (misses.At left) fault = (at : ℕ) × (fault ≡ faults.NotADescription at)
