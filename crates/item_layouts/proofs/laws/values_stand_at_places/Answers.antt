use Rattle.std.proofs.lemmas.List.{length-map}
use Rattle.item_layouts.specs.Layouts.{item_places, value_at}
use Rattle.item_layouts.proofs.Listed.{value_is, same_values}
use Rattle.item_layouts.proofs.laws.values_stand_at_places.Goals as goal

pub returns-clause-count : goal.returns-clause-count
returns-clause-count c = λ l v. length-map (item_places l) (value_at v)

pub returns-clause-each : goal.returns-clause-each
returns-clause-each c = value_is

pub returns-clause-same : goal.returns-clause-same
returns-clause-same c = same_values
