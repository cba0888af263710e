use Rattle.std.proofs.Common.{◌≡◌, drop}
use Rattle.name_checks.specs.Unknown.{alternatives_unknown}
use Rattle.name_checks.proofs.unknown.Unknown.alternatives.Given as goal

abbrev pub invariant-loop-name : goal.invariant-loop-name
invariant-loop-name g l = alternatives_unknown (g.N.Names.tree l.self.names.now) l.operation l.all ≡ alternatives_unknown (g.N.Names.tree l.self.names.now) l.operation (drop l.name-index l.all)
