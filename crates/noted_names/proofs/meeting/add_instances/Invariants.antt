use Rattle.std.proofs.Common.{◌≡◌, ◌++◌, drop, map}
use Rattle.noted_names.specs.Standing.{names_of}
use Rattle.noted_names.proofs.meeting.add_instances.Given as goal

abbrev pub invariant-each : goal.invariant-each
invariant-each l = names_of l.met.items ++ map (λ pair. pair.0) (drop l.name-index l.pairs) ≡ names_of l.fn.met.items ++ map (λ pair. pair.0) l.pairs
