use Rattle.std.proofs.Common.{◌+◌, List, drop, map, subst, rules, arith}
use Rattle.lisa_object.specs.declared.parts.Object.{Object}
use Rattle.lisa_object.specs.Objects.{object_tree}
use Rattle.placed_programs.specs.Entries.{entries_of}
use Rattle.object_links.specs.LineNames.{parts_of}
use Rattle.object_links.proofs.Steps.{one_object}
use Rattle.lisa_linker.proofs.Noted.{AreShared, shared_first, shared_on}
use Rattle.lisa_linker.proofs.values.shared_values.Goals as goal

pub each-init : goal.each-init
each-init c = shared_first (parts_of (map object_tree c.args.objects.now)) c.new-counts.result c.new-values.result (λ m. search rules) (λ n. search rules)

pub note_shared-requires-clause-short : goal.note_shared-requires-clause-short
note_shared-requires-clause-short c = c.each.invariant.short

pub each-preserved : goal.each-preserved
each-preserved c =
    let P : List Object → Type 0 = λ os. AreShared (parts_of (map object_tree c.args.objects.now)) c.each.counts c.each.values (parts_of (map object_tree os)) in
    shared_on (parts_of (map object_tree c.args.objects.now)) c.each.counts c.note_shared.new.counts c.each.values c.note_shared.new.values
    (entries_of (object_tree c.object-item.result).lines) (parts_of (map object_tree (drop (c.each.object-index + 1) c.args.objects.now)))
    (subst P (one_object c.args.objects.now c.each.object-index c.object-item.result (omega arith) c.object-item.is) c.each.invariant)
    c.in_ok-note_shared.ensures.short c.in_ok-note_shared.ensures.counted c.in_ok-note_shared.ensures.noted
