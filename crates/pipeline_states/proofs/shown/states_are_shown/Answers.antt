use Rattle.std.proofs.Common.{refl}
use Rattle.item_layouts.specs.Layouts.{item_places}
use Rattle.lisa_meaning.specs.States.{layout_of}
use Rattle.pipeline_states.proofs.States.{state_same}
use Rattle.pipeline_states.proofs.shown.states_are_shown.Goals as goal

pub returns : goal.returns
returns c d memory queues words hard few shows = state_same d few memory queues words hard shows (item_places (layout_of d)) refl
