use Rattle.std.proofs.Common.{◌≡◌, map, take}
use Rattle.vcd_trace.specs.Meaning.{item_of}
use Rattle.vcd_trace.proofs.whole.make_items.Given as goal

abbrev pub invariant-loop-variable : goal.invariant-loop-variable
invariant-loop-variable l = l.items.items ≡ map item_of (take l.variable-index l.variables)
