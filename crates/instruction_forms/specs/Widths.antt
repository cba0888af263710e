-- How wide an instruction is.
use Rattle.std.specs.Prelude.{ℕ, ◌≡◌, Option, None, Some}
use Rattle.lisa_tree.specs.Descriptions.{DescriptionTree}
use Rattle.lisa_tree.specs.Paths.{choice_node}
use Rattle.least_fixed_points.specs.Settles.{Settles}
use Rattle.coding_tables.specs.coding_checks.Widths.{width_step}
use Rattle.coding_tables.specs.Instructions.{instruction_choice}

-- the group of all instructions has this width
abbrev pub IsInstructionWidth : DescriptionTree → ℕ → ℕ → Type 0
IsInstructionWidth d c w = Settles (width_step d) (choice_node d c) w

-- where there is such a group, it has a width
abbrev pub HasInstructionWidth : DescriptionTree → Type 0
HasInstructionWidth d = (c : ℕ) → instruction_choice d ≡ Some c → (w : ℕ) × IsInstructionWidth d c w

-- instructions have this width; none without a group of all instructions
abbrev pub HasWidth : DescriptionTree → Option ℕ → Type 0
HasWidth d None = instruction_choice d ≡ None
HasWidth d (Some w) = (c : ℕ) × (instruction_choice d ≡ Some c) × IsInstructionWidth d c w
