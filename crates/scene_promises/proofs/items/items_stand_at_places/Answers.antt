use Rattle.description_sizes.specs.Sizes.{items}
use Rattle.item_layouts.specs.Layouts.{item_places}
use Rattle.lisa_meaning.specs.States.{layout_of}
use Rattle.scene_promises.proofs.Matched.{counted, place_there, all_are, has_item}
use Rattle.scene_promises.proofs.items.items_stand_at_places.Goals as goal

pub returns-clause-count : goal.returns-clause-count
returns-clause-count c = λ d width has. counted d width (items d width) (item_places (layout_of d)) (all_are d width has)

pub returns-clause-each : goal.returns-clause-each
returns-clause-each c = λ d width has i p e. has_item d width has i p e

pub returns-clause-back : goal.returns-clause-back
returns-clause-back c = λ d width has i x e. place_there d width (items d width) (item_places (layout_of d)) (all_are d width has) i x e
