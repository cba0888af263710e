use Rattle.module_sizes.proofs.Limited.{units_few}
use Rattle.module_sizes.proofs.laws.units_are_few.Goals as goal

pub returns : goal.returns
returns c d types declared forms has light =
    let limits = c.sizes_are_limited.ensures d forms in
    units_few d types declared has limits.0 limits.1 limits.2 light
