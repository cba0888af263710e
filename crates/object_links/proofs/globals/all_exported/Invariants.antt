use Rattle.std.proofs.Common.{◌≡◌, ◌++◌, drop, map}
use Rattle.lisa_object.specs.Objects.{object_tree}
use Rattle.object_links.specs.LinkFaults.{all_exported}
use Rattle.object_links.specs.LineNames.{parts_of}
use Rattle.object_links.proofs.globals.all_exported.Given as goal

abbrev pub invariant-loop-object : goal.invariant-loop-object
invariant-loop-object l = map (λ n. n.now) l.names.items ++ all_exported (parts_of (map object_tree (drop l.object-index l.objects))) ≡ all_exported (parts_of (map object_tree l.objects))
