use Rattle.std.proofs.Common.{◌≡◌, length}
use Rattle.noted_names.specs.Naming.{EachIs, IsMemo, NotesAll}
use Rattle.noted_names.proofs.naming.memos_of.Given as goal

abbrev pub invariant-each : goal.invariant-each
invariant-each g l = record {
  len : length l.memos.items ≡ l.operation;
  right : EachIs (IsMemo (g.N.Names.tree l.names)) l.memos.items;
  noted : EachIs (NotesAll (g.N.Names.tree l.names)) l.memos.items;
}
