use Rattle.std.proofs.Common.{◌+◌, ap, ◌∙◌, subst, sym}
use Rattle.activation_bits.specs.Members.{has}
use Rattle.pipeline_runs.specs.Seeing.{TellsSome}
use Rattle.pipeline_runs.proofs.Told.{AreToldTo, open_and_queued, told_with, told_without}
use Rattle.pipeline_runs.proofs.seeing.ran_stages.Goals.{then-has_run, else-has_run}
use Rattle.pipeline_runs.proofs.seeing.ran_stages.Goals as goal

pub each-preserved : goal.each-preserved
each-preserved c =
    let queues = c.args.queues.now in
    let held = c.args.held in
    let flushed = c.args.flushed in
    let stage = c.each.stage in
    let far = c.each.invariant in
    elim c.if-has_run.branch [
      | then-has_run w ↦
          told_with queues held flushed c.each.stages c.if-has_run.stages stage
          (λ s. ap (λ n. has n s) w.stages-is ∙ w.with_stage-stages.ensures s)
          (subst (λ b. TellsSome (open_and_queued queues held flushed stage) b) w.if-has_run.true c.has_run.ensures) far
      | else-has_run w ↦
          subst (λ n. AreToldTo queues held flushed n (stage + 1)) (sym w.stages-is)
          (told_without queues held flushed c.each.stages stage
          (subst (λ b. TellsSome (open_and_queued queues held flushed stage) b) w.if-has_run.false c.has_run.ensures) far)
    ]
