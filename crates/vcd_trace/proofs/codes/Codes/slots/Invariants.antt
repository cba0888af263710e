use Rattle.std.proofs.Common.{◌≡◌, map, take}
use Rattle.vcd_trace.specs.CodeTables.{slot_of}
use Rattle.vcd_trace.proofs.codes.Codes.slots.Given as goal

abbrev pub invariant-loop-variable : goal.invariant-loop-variable
invariant-loop-variable l = l.slots.items ≡ map (slot_of l.self.variables.now) (take l.variable-index l.self.variables.now)
