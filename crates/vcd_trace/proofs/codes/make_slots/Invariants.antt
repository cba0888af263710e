use Rattle.std.proofs.Common.{◌≤◌, length}
use Rattle.vcd_trace.proofs.CodeLaws.{AreBehind}
use Rattle.vcd_trace.proofs.codes.make_slots.Given as goal

abbrev pub invariant-loop-left : goal.invariant-loop-left
invariant-loop-left l = (l.left ≤ length l.variables) × AreBehind l.slots l.variables l.left

abbrev pub decreases-loop-left : goal.decreases-loop-left
decreases-loop-left l = l.left
