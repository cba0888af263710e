use Rattle.std.proofs.Common.{refl}
use Rattle.netlist_wires.specs.Wiring.{ended}
use Rattle.netlist_wires.proofs.Members.{regs_is, arrays_is}
use Rattle.netlist_wires.proofs.Edges.{states_are}
use Rattle.netlist_wires.proofs.laws.modules_are_their_programs.Goals as goal

pub returns-clause-items : goal.returns-clause-items
returns-clause-items c find p = regs_is p (ended find p)

pub returns-clause-arrays : goal.returns-clause-arrays
returns-clause-arrays c find p = arrays_is p (ended find p)

pub returns-clause-pins : goal.returns-clause-pins
returns-clause-pins c find p = refl

pub returns-clause-states : goal.returns-clause-states
returns-clause-states c find p image entries is_find formed distinct few rules found fits = states_are p formed distinct find is_find few image entries rules found fits
