use Rattle.std.proofs.Common.{◌≡◌, ◌≤◌, ◌+◌, ◌∙◌, ℕ, List, Some, None, false, get_or, length, sym, ap, arith, subst}
use Rattle.std.specs.Prelude.{slice_get}
use Rattle.std.proofs.lemmas.Option.{slice_get-get_or}
use Rattle.activation_trees.specs.declared.parts.Occurrence.{Occurrence}
use Rattle.activation_trees.specs.Places.{count_at, count_more}
use Rattle.activation_trees.proofs.Placing.{Placed, count_is_small, next_placed, all_placed, written_back}
use Rattle.activation_trees.proofs.activating.places.Goals as goal

abbrev nobody : Occurrence
nobody = record { operation = 0; parent = None; from = None; stage = None; past_root = false }

pub next_place-requires-clause-small : goal.next_place-requires-clause-small
next_place-requires-clause-small c =
    let all = c.args.occurrences.now in
    let i = c.loop-occurrence.occurrence-index in
    let counts = c.loop-occurrence.counts.items in
    let x = get_or all i nobody in
    let small : count_at counts x.parent ≤ i = count_is_small all i counts c.loop-occurrence.places.items c.loop-occurrence.invariant x (slice_get-get_or all i nobody c.loop-occurrence-test.true) c.requires in
    let same : count_at c.deref_mut.result.now x.parent ≡ count_at counts x.parent = ap (λ (l : List ℕ). count_at l x.parent) c.deref_mut.ensures.value in
    let inside = c.loop-occurrence-test.true in
    let few = c.deref_mut.type_inv.0 in
    let many = c.loop-occurrence.invariant.many in
    let all_counts = ap length c.deref_mut.ensures.value in
    omega (arith, small, same, inside, few, many, all_counts)

pub loop-occurrence-preserved : goal.loop-occurrence-preserved
loop-occurrence-preserved c =
    let all = c.args.occurrences.now in
    let i = c.loop-occurrence.occurrence-index in
    let counts = c.loop-occurrence.counts in
    let x = get_or all i nobody in
    let more : c.next_place.new.counts ≡ count_more counts.items x.parent = c.next_place.ensures.more ∙ ap (λ (l : List ℕ). count_more l x.parent) c.deref_mut.ensures.value in
    let is : c.next_place.result ≡ count_at counts.items x.parent = c.next_place.ensures.place ∙ ap (λ (l : List ℕ). count_at l x.parent) c.deref_mut.ensures.value in
    next_placed all i counts.items c.loop-occurrence.places.items c.loop-occurrence.invariant x (slice_get-get_or all i nobody c.loop-occurrence-test.true) c.requires c.next_place.result _ c.push.new.self.items is
    (written_back counts.len counts.items c.next_place.new.counts x.parent counts.ok.0 more)
    c.in_ok-push.ensures.items

pub returns : goal.returns
returns c = all_placed c.args.occurrences.now c.loop-occurrence.occurrence-index c.loop-occurrence.counts.items c.loop-occurrence.places.items c.loop-occurrence.invariant c.loop-occurrence-test.false c.loop-occurrence.auto.occurrence-index-end
