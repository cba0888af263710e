use Rattle.std.proofs.Common.{◌≡◌, ◌++◌, map, take}
use Rattle.verilog_text.specs.Trees.{member_tree}
use Rattle.netlist_wires.specs.Wiring.{clock_name, reg_members}
use Rattle.netlist_build.proofs.assembling.put_items.Given as goal

abbrev pub invariant-loop-item : goal.invariant-loop-item
invariant-loop-item l = map (member_tree clock_name) l.members.items ≡ map (member_tree clock_name) l.fn.members.items ++ reg_members (take l.item-index l.items)
