use Rattle.pipeline_time.proofs.Held.{held_are_first}
use Rattle.pipeline_time.proofs.laws.held_are_first.Goals as goal

pub returns : goal.returns
returns c = held_are_first
