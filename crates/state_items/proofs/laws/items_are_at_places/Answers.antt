use Rattle.std.proofs.Common.{ap, ◌∙◌}
use Rattle.std.specs.Prelude.{option_map}
use Rattle.std.proofs.lemmas.Option.{slice_get-map}
use Rattle.item_layouts.specs.Layouts.{item_places, value_at}
use Rattle.pipeline_time.specs.Bits.{shown}
use Rattle.lisa_meaning.specs.Cores.{core_of}
use Rattle.lisa_meaning.specs.States.{layout_of, values_of, after_edges}
use Rattle.state_items.proofs.laws.items_are_at_places.Goals as goal

pub returns : goal.returns
returns c d image entries i p is =
    let values = values_of (shown (core_of d) (after_edges d image entries)) in
    slice_get-map (value_at values) (item_places (layout_of d)) i ∙ ap (option_map (value_at values)) is
