use Rattle.std.proofs.Common.{◌≡◌, ◌++◌, drop, map}
use Rattle.lisa_tree.specs.Declarations.{entry}
use Rattle.description_tables.proofs.listing.add_names.Given as goal

abbrev pub invariant-loop-name : goal.invariant-loop-name
invariant-loop-name l = l.entries.items ++ map (entry l.operation l.what) (drop l.name-index l.names) ≡ l.fn.entries.items ++ map (entry l.operation l.what) l.names
