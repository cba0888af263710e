use Rattle.std.proofs.Common.{refl}
use Rattle.item_layouts.specs.Layouts.{item_places}
use Rattle.lisa_meaning.specs.States.{layout_of}
use Rattle.pipeline_states.proofs.States.{shows_after}
use Rattle.pipeline_states.proofs.shown.all_is_shown.Goals as goal

pub returns : goal.returns
returns c d image memory queues words entries few rules found have all reached same =
    shows_after d few image rules found have all (item_places (layout_of d)) memory queues words refl reached entries same
