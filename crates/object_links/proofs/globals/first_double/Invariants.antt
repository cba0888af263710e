use Rattle.std.proofs.Common.{◌≡◌, ℕ, List, [], drop, map}
use Rattle.lisa_object.specs.Seen.{HoldsSorted}
use Rattle.object_links.specs.Firsts.{first_double}
use Rattle.object_links.proofs.globals.first_double.Given as goal

abbrev pub invariant-each : goal.invariant-each
invariant-each l = (seen : List (List ℕ)) × HoldsSorted l.seen seen
    × (first_double seen (map (λ n. n.now) (drop l.name-index l.names)) ≡ first_double [] (map (λ n. n.now) l.names))
