-- What it is to be the module of a step program, for a module and for a text.
use Rattle.std.specs.Prelude.{◌≡◌, ◌≢◌, ◌≤◌, ℕ, List, length, None, AllPairs}
use Rattle.lisa_engine.specs.Memory.{Memory}
use Rattle.lisa_engine.specs.Shape.{AreEntries}
use Rattle.lisa_engine.specs.Images.{IsImage, missing_memory}
use Rattle.verilog_text.specs.Trees.{ModuleTree}
use Rattle.verilog_text.specs.Clocked.{regs, arrays, nets, v_state}
use Rattle.verilog_text.specs.Faults.{VAccepts}
use Rattle.step_program.specs.Programs.{Program}
use Rattle.step_program.specs.Effects.{p_state}
use Rattle.netlist_rules.specs.Sizes.{module_most, AreEnough}

-- the module has the program's items, arrays and pins, and the program's state after each list of pin values, an entry for each edge,
-- for every image whose memories are the program's arrays
pub record IsModuleOf (p : Program) (m : ModuleTree) : Type 0 where
  pub items : regs m.members ≡ p.items
  pub arrays : arrays m.members ≡ p.arrays
  pub pins : m.inputs ≡ p.pins
  pub states : (image : List Memory) (entries : List (List ℕ)) → IsImage image → missing_memory p.arrays image ≡ None → AreEntries p.pins entries → v_state m image entries ≡ p_state p image entries

-- so many bytes are as few as stated: where the numbers of wires have 20 digits, and where they have fewer, if these are enough
pub record AreFew (p : Program) (bytes : ℕ) : Type 0 where
  pub always : bytes ≤ module_most 20 p
  pub short : (digits : ℕ) → AreEnough digits p → bytes ≤ module_most digits p

-- the bytes spell such a module, in which nothing is broken, and they are as few as stated
pub record IsTextOf (p : Program) (bytes : List ℕ) : Type 0 where
  pub tree : ModuleTree
  pub accepted : VAccepts bytes tree
  pub is_module : IsModuleOf p tree
  pub few : AreFew p (length bytes)

-- no two wires of one width carry the same expression
abbrev pub WiresDiffer : ModuleTree → Type 0
WiresDiffer m = AllPairs (λ a b. a.item.width ≡ b.item.width → a.value ≢ b.value) (nets m.members)
