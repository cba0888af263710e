use Rattle.noted_names.specs.Naming.{IsMemo}
use Rattle.noted_names.specs.Standing.{names_of}
use Rattle.noted_names.proofs.Noting.{NotedBefore}
use Rattle.noted_names.proofs.naming.memo_of.Given as goal

abbrev pub invariant-each : goal.invariant-each
invariant-each g l = record {
  right : IsMemo (g.N.Names.tree l.names) l.operation l.memo;
  noted : NotedBefore l.memo.table (names_of l.met.items) l.place;
}
