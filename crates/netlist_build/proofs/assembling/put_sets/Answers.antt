use Rattle.std.proofs.Common.{◌∙◌}
use Rattle.step_program.specs.Programs.{program_tree}
use Rattle.netlist_build.proofs.Steps.{set_step}
use Rattle.netlist_build.proofs.assembling.put_sets.Goals as goal

pub loop-place-preserved : goal.loop-place-preserved
loop-place-preserved c = λ rest.
    set_step (program_tree c.args.program.now) _ _ _ _ _ _ _ rest c.loop-place-test.true (rw c.deref.ensures.value at c.in_ok-name.ensures) c.in_ok-value.ensures c.in_ok-push.ensures.items ∙ c.loop-place.invariant rest
