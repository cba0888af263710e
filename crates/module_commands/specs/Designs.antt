-- What a module's clock is made of.
use Rattle.std.specs.Prelude.{ℕ, ◌≡◌, List, Option}
use Rattle.lisa_engine.specs.Memory.{Memory}
use Rattle.lisa_object.specs.declared.parts.Stamped.{Stamped}
use Rattle.verilog_text.specs.Trees.{ModuleTree}
use Rattle.verilog_text.specs.Clocked.{regs, arrays, v_state}
use Rattle.verilog_text.specs.Faults.{VAccepts, VFault}
use Rattle.verilog_text.specs.declared.faults.VerilogFault.{VerilogFault}
use Rattle.lisa_outcomes.specs.declared.status.Refusal.{Refusal}
use Rattle.lisa_outcomes.specs.declared.status.Refusal.TheVariants as refusals
use Rattle.lisa_outcomes.specs.Outcomes.{Outcome, After}
use Rattle.lisa_outcomes.specs.RunFiles.{RunBytes}
use Rattle.engine_commands.specs.Images.{IsImageOf, IsNoImage, memories_of}
use Rattle.lisa_engine.specs.Machines.{Machine, machine_of}

-- the fault of bytes that are no module
abbrev pub IsUnreadModule : List ℕ → Refusal → Type 0
IsUnreadModule bytes refusal = (fault : VerilogFault) × VFault bytes fault × (refusal ≡ refusals.Verilog fault)

pub record Design : Type 0 where
  pub tree : ModuleTree
  pub memories : List Memory

-- the module that the first file spells, and the memories of the image
pub record IsDesign (bytes : RunBytes) (d : Design) : Type 0 where
  pub accepted : VAccepts bytes.main d.tree
  pub image : Option Stamped
  pub spelled : IsImageOf bytes.image image
  pub memories : d.memories ≡ memories_of image

-- the module is read first, and then the image
pub data IsNoDesign (bytes : RunBytes) : Refusal → Type 0 where
  no_module : {refusal : Refusal} → IsUnreadModule bytes.main refusal → IsNoDesign bytes refusal
  no_image : {refusal : Refusal} {tree : ModuleTree} → VAccepts bytes.main tree → IsNoImage bytes.image refusal → IsNoDesign bytes refusal

-- its clock: the states that the module means, with the image's cells first
abbrev pub clock_machine : Design → Machine
clock_machine d = machine_of d.tree.inputs (regs d.tree.members) (arrays d.tree.members) (v_state d.tree d.memories)

-- the outcome of a command that first reads the module and the image
abbrev pub AfterDesign : RunBytes → (Design → Outcome → Type 0) → Outcome → Type 0
AfterDesign bytes Then = After (IsDesign bytes) (IsNoDesign bytes) Then
