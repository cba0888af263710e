use Rattle.std.proofs.Common.{◌∙◌}
use Rattle.step_program.specs.Programs.{program_tree}
use Rattle.netlist_build.proofs.Steps.{write_step}
use Rattle.netlist_build.proofs.assembling.put_writes.Goals as goal

pub loop-write-preserved : goal.loop-write-preserved
loop-write-preserved c = λ rest. write_step (program_tree c.args.program.now) _ _ _ _ _ _ rest c.loop-write-test.true c.in_ok-put_write.ensures c.in_ok-push.ensures.items ∙ c.loop-write.invariant rest
