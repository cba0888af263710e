use Rattle.std.proofs.Common.{map}
use Rattle.text_tables.proofs.Relating.{AreRowsOf}
use Rattle.text_tables.proofs.relations.Relations.make.Given as goal

abbrev pub invariant-lists : goal.invariant-lists
invariant-lists l = AreRowsOf (map (λ v. v.items) l.shared) l.list (map (λ v. v.items) l.rows.items)
