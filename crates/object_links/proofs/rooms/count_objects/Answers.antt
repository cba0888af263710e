use Rattle.std.proofs.Common.{◌∷◌, ◌+◌, List, drop, map, sym, ap, ◌∙◌, arith}
use Rattle.lisa_object.specs.declared.parts.Object.{Object}
use Rattle.lisa_object.specs.Objects.{object_tree}
use Rattle.placed_programs.specs.Entries.{entries_of}
use Rattle.placed_programs.specs.Addresses.{Counts, no_cells}
use Rattle.object_links.specs.LinkFaults.{Entries, capped, all_counts}
use Rattle.object_links.specs.LineNames.{parts_of}
use Rattle.object_links.specs.LineSizes.{count_of}
use Rattle.object_links.proofs.Steps.{one_object}
use Rattle.object_links.proofs.Capped.{Alike, object_counted}
use Rattle.object_links.proofs.rooms.count_objects.Goals as goal

pub each-preserved : goal.each-preserved
each-preserved c = λ m.
    let rest : List Entries = parts_of (map object_tree (drop (c.each.object-index + 1) c.args.objects.now)) in
    let total : Counts = all_counts no_cells (parts_of (map object_tree c.args.objects.now)) in
    let before : Alike (all_counts (count_of c.each.counts) (entries_of (object_tree c.object-item.result).lines ∷ rest)) total =
    λ q. ap (λ (os : List Object). capped (all_counts (count_of c.each.counts) (parts_of (map object_tree os)) q))
    (sym (one_object c.args.objects.now c.each.object-index c.object-item.result (omega arith) c.object-item.is)) ∙ c.each.invariant q in
    object_counted (count_of c.each.counts) (count_of c.count_object.new.counts) total (entries_of (object_tree c.object-item.result).lines) rest c.in_ok-count_object.ensures before m
