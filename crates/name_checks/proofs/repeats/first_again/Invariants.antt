use Rattle.std.proofs.Common.{◌≡◌, [], drop}
use Rattle.name_checks.specs.Doubled.{again_in}
use Rattle.name_checks.proofs.repeats.first_again.Given as goal

abbrev pub invariant-loop-name : goal.invariant-loop-name
invariant-loop-name l = again_in [] l.names ≡ again_in l.seen.keys.items (drop l.name-index l.names)
