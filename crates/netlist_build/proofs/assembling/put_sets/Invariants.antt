use Rattle.std.proofs.Common.{◌≡◌, drop}
use Rattle.verilog_text.specs.Trees.{ActionTrees}
use Rattle.step_program.specs.Programs.{program_tree}
use Rattle.netlist_wires.specs.Wiring.{set_items}
use Rattle.netlist_build.specs.Assembled.{actions_then}
use Rattle.netlist_build.proofs.assembling.put_sets.Given as goal

abbrev pub invariant-loop-place : goal.invariant-loop-place
invariant-loop-place l =
    (rest : ActionTrees) → actions_then l.actions.items (set_items (program_tree l.program) l.place (drop l.place l.flats) rest) ≡ actions_then l.fn.actions.items (set_items (program_tree l.program) 0 l.flats rest)
