use Rattle.std.proofs.Common.{◌≡◌, ◌+◌, drop, map}
use Rattle.lisa_object.specs.Objects.{object_tree}
use Rattle.object_links.specs.LinkFaults.{all_exported, undefined_from}
use Rattle.object_links.specs.LineNames.{parts_of}
use Rattle.object_links.proofs.uses.first_undefined.Given as goal

abbrev pub invariant-each : goal.invariant-each
invariant-each l = undefined_from (l.place + 1) (all_exported (parts_of (map object_tree l.objects))) (parts_of (map object_tree (drop l.place l.objects)))
    ≡ undefined_from 1 (all_exported (parts_of (map object_tree l.objects))) (parts_of (map object_tree l.objects))
