use Rattle.std.proofs.Common.{drop, map}
use Rattle.lisa_object.specs.Objects.{object_tree}
use Rattle.object_links.specs.LineNames.{parts_of}
use Rattle.lisa_linker.proofs.Noted.{AreShared}
use Rattle.lisa_linker.proofs.values.shared_values.Given as goal

abbrev pub invariant-each : goal.invariant-each
invariant-each l = AreShared (parts_of (map object_tree l.objects)) l.counts l.values (parts_of (map object_tree (drop l.object-index l.objects)))
