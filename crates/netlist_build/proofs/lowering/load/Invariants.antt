use Rattle.std.proofs.Common.{◌≡◌, reverse, take}
use Rattle.step_program.specs.Programs.{program_tree}
use Rattle.netlist_wires.specs.Wiring.{load}
use Rattle.netlist_build.specs.Symbolic.{first}
use Rattle.netlist_wires.specs.contracts.keys.KeyPartialEq.TheImpl as impl
use Rattle.netlist_build.proofs.lowering.load.Given as goal

abbrev pub invariant-loop-write : goal.invariant-loop-write
invariant-loop-write l = record {
  flat : l.found ≡ (load (first impl.eq-value.it) (program_tree l.program) l.array (reverse (take l.write-index l.writes)) l.index l.fn.keys.keys).flat;
  keys : l.keys.keys ≡ (load (first impl.eq-value.it) (program_tree l.program) l.array (reverse (take l.write-index l.writes)) l.index l.fn.keys.keys).keys;
}
