-- What a machine keeps beside its description.
use Rattle.std.specs.Prelude.{◌≡◌, ◌≤◌, ℕ, List}
use Rattle.lisa_tree.specs.Descriptions.{DescriptionTree}
use Rattle.lisa_tree.specs.Texts.{SpellsText}
use Rattle.machine_parts.specs.Parts.{arrays_of, memories_of, pins_of, first_values, reset_count, reset_node_count}
use Rattle.lisa_machine.specs.declared.parts.Parts.{Parts}

-- some bytes spell the description
pub record IsSpelled (d : DescriptionTree) : Type 0 where
  pub bytes : List ℕ
  pub spells : SpellsText bytes d

-- `reset` has few enough statements and nodes, its loops unrolled, to be evaluated
pub record IsResetShort (d : DescriptionTree) : Type 0 where
  pub few_statements : reset_count d ≤ 4096
  pub few_nodes : reset_node_count d ≤ 4194304

-- the parts are the description's
pub record AreParts (d : DescriptionTree) (parts : Parts) : Type 0 where
  pub of_arrays : parts.arrays.items ≡ arrays_of d
  pub of_memories : parts.memories.items ≡ memories_of d
  pub of_pins : parts.pins.items ≡ pins_of d
  pub of_registers : IsResetShort d → parts.firsts.items ≡ first_values d
