use Rattle.std.proofs.Common.{◌+◌, ◌-◌, vec_len}
use Rattle.engine_commands.proofs.WholeInputs.{Takes}
use Rattle.engine_commands.proofs.inputs.take_whole.Given as goal

abbrev pub invariant-loop-piece : goal.invariant-loop-piece
invariant-loop-piece g l = Takes l.limit (g.I.Source.left l.fn.input) (g.I.Source.left l.input) (g.I.Source.faults l.fn.input) (g.I.Source.faults l.input) l.bytes.items

abbrev pub decreases-loop-piece : goal.decreases-loop-piece
decreases-loop-piece g l = l.limit + 1 - vec_len l.bytes
