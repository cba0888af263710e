use Rattle.std.proofs.Common.{arith}
use Rattle.spelled_promises.proofs.Outer.{well_formed}
use Rattle.module_sizes.proofs.Longest.{is_longest}
use Rattle.module_sizes.proofs.laws.names_are_short.Goals as goal

pub returns : goal.returns
returns c d types declared spelled forms =
    let limits = (c.sizes_are_limited.ensures d forms).2 in
    let few = limits.few_occurrences in
    is_longest d (well_formed spelled.bytes d spelled.spells) types declared (omega (arith, few))
