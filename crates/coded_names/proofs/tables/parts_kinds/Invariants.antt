use Rattle.std.proofs.Common.{◌≡◌, ℕ, List, drop}
use Rattle.std.specs.Option.{option_or}
use Rattle.name_tables.specs.TableViews.{value_of}
use Rattle.coded_names.specs.Codings.{parts_kind}
use Rattle.coded_names.proofs.tables.parts_kinds.Given as goal

abbrev pub invariant-loop-item : goal.invariant-loop-item
invariant-loop-item l = (n : List ℕ) → option_or (value_of l.table n) (parts_kind n (drop l.item-index l.items)) ≡ parts_kind n l.items
