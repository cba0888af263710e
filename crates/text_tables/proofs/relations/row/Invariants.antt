use Rattle.std.proofs.Common.{map}
use Rattle.text_tables.proofs.Relating.{IsRowOf}
use Rattle.text_tables.proofs.relations.row.Given as goal

abbrev pub invariant-lists : goal.invariant-lists
invariant-lists l = IsRowOf (map (λ v. v.items) l.shared) l.list l.before l.row.items
