use Rattle.std.proofs.Common.{◌≡◌, ◌++◌, map, drop}
use Rattle.verilog_text.specs.Trees.{member_tree}
use Rattle.step_program.specs.Programs.{program_tree}
use Rattle.netlist_wires.specs.Wiring.{clock_name, wires_from}
use Rattle.netlist_build.proofs.assembling.put_wires.Given as goal

abbrev pub invariant-loop-wire : goal.invariant-loop-wire
invariant-loop-wire l =
    map (member_tree clock_name) l.members.items ++ wires_from (program_tree l.program) l.wire (drop l.wire l.keys) ≡ map (member_tree clock_name) l.fn.members.items ++ wires_from (program_tree l.program) 0 l.keys
