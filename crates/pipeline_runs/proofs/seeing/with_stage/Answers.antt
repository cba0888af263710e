use Rattle.pipeline_runs.proofs.Marks.{has_with}
use Rattle.pipeline_runs.proofs.seeing.with_stage.Goals as goal

pub returns : goal.returns
returns c other = has_with c.args.stages c.args.stage other c.requires
