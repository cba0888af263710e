use Rattle.std.proofs.Common.{◌≡◌, map, take, ◌++◌, drop}
use Rattle.netlist_wires.specs.declared.keys.Flat.TheVariants.{Fixed}
use Rattle.netlist_wires.specs.Wiring.{own_items}
use Rattle.netlist_build.proofs.lowering.begun.Given as goal

abbrev pub invariant-loop-index : goal.invariant-loop-index
invariant-loop-index l = l.items.items ++ own_items l.index (drop l.index l.program.items.items) ≡ own_items 0 l.program.items.items

abbrev pub invariant-loop-width : goal.invariant-loop-width
invariant-loop-width l = l.temps.items ≡ map (λ w. Fixed w 0) (take l.width-index l.program.temps.items)
