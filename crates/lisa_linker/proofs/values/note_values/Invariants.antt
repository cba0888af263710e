use Rattle.std.proofs.Common.{drop, map}
use Rattle.std.specs.Option.{option_copied}
use Rattle.lisa_object.specs.Objects.{object_line_tree}
use Rattle.object_links.specs.LineSizes.{count_of}
use Rattle.lisa_linker.proofs.Noted.{AreNoted}
use Rattle.lisa_linker.proofs.values.note_values.Given as goal

abbrev pub invariant-each : goal.invariant-each
invariant-each l = AreNoted (option_copied l.wanted) (count_of l.fn.counts) l.fn.values (map object_line_tree l.lines)
    l.counts l.values (option_copied l.here) (map object_line_tree (drop l.line-index l.lines))
