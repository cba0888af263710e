use Rattle.std.proofs.Common.{◌≡◌, length}
use Rattle.noted_names.specs.Naming.{EachIs, IsOwn}
use Rattle.noted_names.proofs.naming.own_stages.Given as goal

abbrev pub invariant-each : goal.invariant-each
invariant-each g l = (length l.own.items ≡ l.operation) × EachIs (IsOwn (g.N.Names.tree l.names)) l.own.items
