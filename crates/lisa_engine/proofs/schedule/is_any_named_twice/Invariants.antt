use Rattle.std.proofs.Common.{◌≡◌, ◌≤◌, ℕ, List, length, drop, false}
use Rattle.lisa_engine.specs.Schedules.{names_twice}
use Rattle.lisa_engine.proofs.Names.{AreBehind}
use Rattle.lisa_engine.proofs.schedule.is_any_named_twice.Given as goal

abbrev pub invariant-loop-left : goal.invariant-loop-left
invariant-loop-left l = (l.left ≤ length l.settings) × AreBehind l.behind (drop l.left l.settings) × (names_twice (drop l.left l.settings) ≡ false)

abbrev pub decreases-loop-left : goal.decreases-loop-left
decreases-loop-left l = l.left
