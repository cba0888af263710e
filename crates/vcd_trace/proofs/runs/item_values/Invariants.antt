use Rattle.std.proofs.Common.{◌≡◌, take}
use Rattle.vcd_trace.proofs.runs.item_values.Given as goal

abbrev pub invariant-loop-place : goal.invariant-loop-place
invariant-loop-place g l = l.values.items ≡ take l.place (g.E.Engine.present l.engine).items
