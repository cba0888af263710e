use Rattle.std.proofs.Common.{◌∙◌}
use Rattle.step_program.specs.Programs.{program_tree}
use Rattle.netlist_wires.specs.Wiring.{clock_name}
use Rattle.netlist_build.proofs.Steps.{wire_step}
use Rattle.netlist_build.proofs.assembling.put_wires.Goals as goal

pub loop-wire-preserved : goal.loop-wire-preserved
loop-wire-preserved c =
    wire_step (program_tree c.args.program.now) clock_name _ _ _ _ _ _ _ c.loop-wire-test.true c.in_ok-wire_name.ensures c.in_ok-value.ensures c.in_ok-push.ensures.items ∙ c.loop-wire.invariant
