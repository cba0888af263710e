use Rattle.item_layouts.proofs.Listed.{listed, once, found}
use Rattle.item_layouts.proofs.laws.places_have_numbers.Goals as goal

pub returns-clause-listed : goal.returns-clause-listed
returns-clause-listed c = listed

pub returns-clause-once : goal.returns-clause-once
returns-clause-once c = once

pub returns-clause-found : goal.returns-clause-found
returns-clause-found c = found
