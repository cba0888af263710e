use Rattle.std.proofs.Common.{◌≡◌, ℕ, List, take}
use Rattle.std.specs.List.{sum_by}
use Rattle.name_tables.specs.TableViews.{value_of}
use Rattle.coding_checks.specs.Written.{part_count, times_for}
use Rattle.coding_checks.proofs.times.parts_times.Given as goal

abbrev pub invariant-loop-item : goal.invariant-loop-item
invariant-loop-item l = (n : List ℕ) → value_of l.table n ≡ times_for (sum_by (part_count n) (take l.item-index l.items))
