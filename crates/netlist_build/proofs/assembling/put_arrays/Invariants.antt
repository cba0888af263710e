use Rattle.std.proofs.Common.{◌≡◌, ◌++◌, map, take}
use Rattle.verilog_text.specs.Trees.{member_tree}
use Rattle.netlist_wires.specs.Wiring.{clock_name, array_members}
use Rattle.netlist_build.proofs.assembling.put_arrays.Given as goal

abbrev pub invariant-loop-array : goal.invariant-loop-array
invariant-loop-array l = map (member_tree clock_name) l.members.items ≡ map (member_tree clock_name) l.fn.members.items ++ array_members (take l.array-index l.arrays)
