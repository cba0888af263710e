use Rattle.std.proofs.Common.{◌≡◌, map, drop}
use Rattle.step_program.specs.Programs.{program_tree, move_of}
use Rattle.netlist_wires.specs.Wiring.{gone_all}
use Rattle.netlist_build.specs.Symbolic.{sym_of, first, going}
use Rattle.netlist_wires.specs.contracts.keys.KeyPartialEq.TheImpl as impl
use Rattle.netlist_build.proofs.lowering.take_all.Given as goal

abbrev pub invariant-loop-step : goal.invariant-loop-step
invariant-loop-step l =
    gone_all (first impl.eq-value.it) (program_tree l.program) (going (sym_of l.symbols) l.keys.keys) (map move_of (drop l.step-index l.program.steps.items))
    ≡ gone_all (first impl.eq-value.it) (program_tree l.program) (going (sym_of l.fn.symbols) l.fn.keys.keys) (map move_of l.program.steps.items)
