use Rattle.std.proofs.Common.{◌≡◌, drop}
use Rattle.verilog_text.specs.Trees.{ActionTrees}
use Rattle.step_program.specs.Programs.{program_tree}
use Rattle.netlist_build.specs.Assembled.{actions_then, puts}
use Rattle.netlist_build.proofs.assembling.put_writes.Given as goal

abbrev pub invariant-loop-write : goal.invariant-loop-write
invariant-loop-write l =
    (rest : ActionTrees) → actions_then l.actions.items (puts (program_tree l.program) (drop l.write-index l.writes) rest) ≡ actions_then l.fn.actions.items (puts (program_tree l.program) l.writes rest)
