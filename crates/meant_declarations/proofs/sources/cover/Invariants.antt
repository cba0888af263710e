use Rattle.std.specs.Prelude.{IfSome}
use Rattle.meant_declarations.specs.Sources.{IsUpper}
use Rattle.meant_declarations.proofs.sources.cover.Given as goal

abbrev pub invariant-loop-upper : goal.invariant-loop-upper
invariant-loop-upper g l = IfSome l.found (λ q. IsUpper (g.N.Names.tree l.names) l.operation q)
