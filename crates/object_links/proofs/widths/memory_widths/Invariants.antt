use Rattle.std.proofs.Common.{◌≡◌, ℕ, List, drop}
use Rattle.std.specs.Option.{option_or}
use Rattle.name_tables.specs.TableViews.{value_of}
use Rattle.object_links.specs.LinkFaults.{named_width}
use Rattle.object_links.proofs.widths.memory_widths.Given as goal

abbrev pub invariant-loop-memory : goal.invariant-loop-memory
invariant-loop-memory l = (n : List ℕ) → option_or (value_of l.widths n) (named_width (drop l.memory-index l.memories) n) ≡ named_width l.memories n
