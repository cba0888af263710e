use Rattle.lowered_layouts.proofs.States.{items_same, hardware_had, first_had}
use Rattle.lowered_layouts.proofs.laws.states_are_shown.Goals as goal

pub returns-clause-shown : goal.returns-clause-shown
returns-clause-shown c d p declared width arranged hard state = (
  λ has. (items_same d declared width p arranged hard state has, has.contents.cells),
  λ same. hardware_had d declared width p arranged hard state same.0 same.1,
)

pub returns-clause-first : goal.returns-clause-first
returns-clause-first c d p declared width arranged first image = first_had d declared width p arranged first image
