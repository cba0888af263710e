use Rattle.std.proofs.Common.{◌≡◌, ◌++◌, drop}
use Rattle.noted_names.specs.Standing.{names_of}
use Rattle.noted_names.proofs.meeting.add_names.Given as goal

abbrev pub invariant-each : goal.invariant-each
invariant-each l = names_of l.met.items ++ drop l.name-index l.names ≡ names_of l.fn.met.items ++ l.names
