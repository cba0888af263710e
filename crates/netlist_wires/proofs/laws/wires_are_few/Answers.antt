use Rattle.std.proofs.Common.{arith}
use Rattle.netlist_wires.specs.Wiring.{begun_going}
use Rattle.netlist_wires.proofs.Growing.{all_grown, begun_sound}
use Rattle.netlist_wires.proofs.laws.wires_are_few.Goals as goal

pub returns : goal.returns
returns c find p is_find formed = omega (arith, (all_grown p formed find is_find (begun_going p) p.moves (begun_sound p formed find is_find) formed.moves).few)
