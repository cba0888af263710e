-- What reading bytes as a module answers.
use Rattle.std.specs.Prelude.{◌≡◌, ℕ, List, Result, Ok, Err, ◌⊎◌}
use Rattle.verilog_text.specs.declared.faults.VerilogFault.{VerilogFault}
use Rattle.verilog_text.specs.declared.faults.VerilogFault.TheVariants as faults
use Rattle.verilog_text.specs.declared.modules.Module.{Module}
use Rattle.verilog_text.specs.Trees.{ModuleTree, module_tree}
use Rattle.verilog_text.specs.Faults.{VAccepts, VFault}

-- the first fault of the text, or want of memory
abbrev pub IsFault : List ℕ → VerilogFault → Type 0
IsFault bytes faults.NoMemory = Unit {0}
IsFault bytes fault = VFault bytes fault

-- this module, or want of memory
abbrev pub IsRead : ModuleTree → Result Module VerilogFault → Type 0
IsRead m (Ok x) = module_tree x ≡ m
IsRead m (Err fault) = fault ≡ faults.NoMemory

-- the same fault, apart from the place of the one whose place is only bounded
abbrev pub IsSameFault : VerilogFault → VerilogFault → Type 0
IsSameFault (faults.NotInSubset at) (faults.NotInSubset place) = Unit {0}
IsSameFault f g = g ≡ f

-- this fault, or want of memory
abbrev pub IsRefused : VerilogFault → Result Module VerilogFault → Type 0
IsRefused fault (Ok x) = ⊥
IsRefused fault (Err answered) = (answered ≡ faults.NoMemory) ⊎ IsSameFault fault answered

-- the bytes spell some module that breaks no condition, or have some fault
pub data HasOutcome (bytes : List ℕ) : Type 0 where
  accepts : (m : ModuleTree) → VAccepts bytes m → HasOutcome bytes
  refuses : (fault : VerilogFault) → VFault bytes fault → HasOutcome bytes
