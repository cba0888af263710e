-- What is broken first among the rules on names.
use Rattle.verilog_text.specs.declared.faults.VerilogFault.{VerilogFault}
use Rattle.verilog_text.specs.declared.faults.VerilogFault.TheVariants as faults
use Rattle.verilog_text.specs.Trees.{ModuleTree}
use Rattle.verilog_text.specs.Conditions.{IsDuplicate, IsUndeclared, IsWrongUse, IsUnset}
use Rattle.verilog_text.specs.Faults.{Holds4, Holds5, Holds6}

-- this is broken, and nothing before it
abbrev pub IsFirstBrokenName : ModuleTree → VerilogFault → Type 0
IsFirstBrokenName m (faults.DuplicateName name) = IsDuplicate m name
IsFirstBrokenName m (faults.UsedBeforeDeclared name) = Holds4 m × IsUndeclared m name
IsFirstBrokenName m (faults.WrongUse name) = Holds5 m × IsWrongUse m name
IsFirstBrokenName m (faults.NoInitial name) = Holds6 m × IsUnset m name
IsFirstBrokenName m faults.NoMemory = Unit {0}
IsFirstBrokenName m _ = ⊥
