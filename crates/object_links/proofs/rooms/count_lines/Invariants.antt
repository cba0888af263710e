use Rattle.std.proofs.Common.{None, drop, map}
use Rattle.std.specs.Option.{option_copied}
use Rattle.lisa_object.specs.Objects.{object_line_tree}
use Rattle.placed_programs.specs.Entries.{entries_of}
use Rattle.placed_programs.specs.Addresses.{counts_after}
use Rattle.object_links.specs.LineSizes.{count_of}
use Rattle.object_links.proofs.Capped.{Alike}
use Rattle.object_links.proofs.rooms.count_lines.Given as goal

abbrev pub invariant-each : goal.invariant-each
invariant-each l = Alike (counts_after (count_of l.counts) (option_copied l.here) (entries_of (map object_line_tree (drop l.line-index l.lines))))
    (counts_after (count_of l.fn.counts) None (entries_of (map object_line_tree l.lines)))
