use Rattle.std.proofs.Common.{◌≡◌, ℕ, List, drop}
use Rattle.std.specs.Option.{option_or}
use Rattle.name_tables.specs.TableViews.{value_of}
use Rattle.coded_names.specs.Codings.{items_child}
use Rattle.coded_names.proofs.tables.items_children.Given as goal

abbrev pub invariant-loop-item : goal.invariant-loop-item
invariant-loop-item l = (n : List ℕ) → option_or (value_of l.table n) (items_child n (drop l.item-index l.items)) ≡ items_child n l.items
