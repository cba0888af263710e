use Rattle.std.proofs.Common.{drop, map}
use Rattle.lisa_object.specs.Objects.{object_tree}
use Rattle.placed_programs.specs.Addresses.{no_cells}
use Rattle.object_links.specs.LinkFaults.{all_counts}
use Rattle.object_links.specs.LineNames.{parts_of}
use Rattle.object_links.specs.LineSizes.{count_of}
use Rattle.object_links.proofs.Capped.{Alike}
use Rattle.object_links.proofs.rooms.count_objects.Given as goal

abbrev pub invariant-each : goal.invariant-each
invariant-each l = Alike (all_counts (count_of l.counts) (parts_of (map object_tree (drop l.object-index l.objects)))) (all_counts no_cells (parts_of (map object_tree l.objects)))
