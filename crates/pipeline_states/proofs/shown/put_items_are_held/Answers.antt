use Rattle.pipeline_states.proofs.Putting.{put_items_held}
use Rattle.pipeline_states.proofs.shown.put_items_are_held.Goals as goal

pub returns : goal.returns
returns c = put_items_held
