-- What is right of the widths, drivers and counts of a module, and what is broken first.
use Rattle.std.specs.Prelude.{ℕ, ◌≡◌, List, Some, None}
use Rattle.verilog_text.specs.declared.faults.VerilogFault.{VerilogFault}
use Rattle.verilog_text.specs.declared.faults.VerilogFault.TheVariants as faults
use Rattle.verilog_text.specs.Conditions.{IsMisindexed, IsDrivenTwice, IsTooMany}
use Rattle.verilog_places.specs.Trees.{PlacedModuleTree, bare_module}
use Rattle.verilog_places.specs.WidePlaces.{first_wide}

-- each index is as long as its array's depth needs
abbrev pub IndexesHold : PlacedModuleTree → Type 0
IndexesHold p = (name : List ℕ) (width needed : ℕ) → ¬ IsMisindexed (bare_module p) name width needed

-- and no range or expression is too wide
abbrev pub WidthsHold : PlacedModuleTree → Type 0
WidthsHold p = IndexesHold p × (first_wide p ≡ None)

-- and no `reg` is assigned in two blocks
abbrev pub DriversHold : PlacedModuleTree → Type 0
DriversHold p = WidthsHold p × ((name : List ℕ) → ¬ IsDrivenTwice (bare_module p) name)

-- and nothing is counted beyond its limit
abbrev pub SizesHold : PlacedModuleTree → Type 0
SizesHold p = DriversHold p × ((what : List ℕ) (count limit : ℕ) → ¬ IsTooMany (bare_module p) what count limit)

-- the fault is of what is broken first, or memory was wanted
abbrev pub IsFirstBrokenSize : PlacedModuleTree → VerilogFault → Type 0
IsFirstBrokenSize p (faults.IndexWidth name width needed) = IsMisindexed (bare_module p) name width needed
IsFirstBrokenSize p (faults.TooWide at) = IndexesHold p × (first_wide p ≡ Some at)
IsFirstBrokenSize p (faults.TwoDrivers name) = WidthsHold p × IsDrivenTwice (bare_module p) name
IsFirstBrokenSize p (faults.TooMany what count limit) = DriversHold p × IsTooMany (bare_module p) what count limit
IsFirstBrokenSize p faults.NoMemory = Unit {0}
IsFirstBrokenSize p _ = ⊥
