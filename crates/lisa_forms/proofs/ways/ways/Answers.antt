use Rattle.std.proofs.Common.{◌≡◌, ◌<◌, ◌∙◌, List, Some, None, false, length, get_or, map, refl, sym, ap, subst, arith}
use Rattle.std.specs.Prelude.{slice_get}
use Rattle.std.specs.Global.{Vec}
use Rattle.std.proofs.lemmas.Option.{slice_get_read, slice_get-get_or}
use Rattle.description_sizes.specs.activation_trees.declared.parts.Occurrence.{Occurrence}
use Rattle.description_sizes.specs.activation_trees.Unfolding.{occurrences}
use Rattle.description_sizes.specs.activation_trees.Places.{AreParentsBefore, ArePlaces}
use Rattle.lisa_forms.specs.declared.way.Way.{Way}
use Rattle.lisa_forms.specs.Ways.{ways_under, way_in}
use Rattle.lisa_forms.proofs.Kept.{parents_before, one_way, all_ways}
use Rattle.lisa_forms.proofs.ways.ways.Goals as goal

abbrev nobody : Occurrence
nobody = record { operation = 0; parent = None; from = None; stage = None; past_root = false }

pub places-requires : goal.places-requires
places-requires g c = subst AreParentsBefore (sym c.requires) (parents_before (g.N.Names.tree c.args.names.now))

pub way-requires-clause-within : goal.way-requires-clause-within
way-requires-clause-within g c p parent =
    let i = c.loop-number.number in
    let own = slice_get-get_or c.args.all.now i nobody c.loop-number-test.true in
    let before : p < i = parents_before (g.N.Names.tree c.args.names.now) i p (get_or c.args.all.now i nobody) (ap (λ (l : List Occurrence). slice_get l i) (sym c.requires) ∙ own) parent in
    let inside = c.loop-number-test.true in
    omega (arith, before, inside)

pub loop-number-preserved : goal.loop-number-preserved
loop-number-preserved g c =
    let d = g.N.Names.tree c.args.names.now in
    let all = c.args.all.now in
    let i = c.loop-number.number in
    let x = get_or all i nobody in
    let ways = c.loop-number.ways.items in
    let places = c.in_ok-places.places.items in
    let place = c.index.result.now in
    let rows : List (List Way) = map (λ row. row.items) c.in_ok-rows.rows.items in
    let own : slice_get all i ≡ Some x = slice_get-get_or all i nobody c.loop-number-test.true in
    let are : ArePlaces (occurrences d) places = subst (λ (l : List Occurrence). ArePlaces l places) c.requires c.in_ok-places.ensures in
    let inside : i < length places = (let t = c.loop-number-test.true in let m = c.in_ok-places.ensures.count in omega (arith, t, m)) in
    one_way d rows places i ways c.push.new.self.items x place c.way.result (c.in_ok-rows.ensures ∙ ap (map (ways_under d)) c.requires) are c.loop-number.invariant
    (ap (λ (l : List Occurrence). slice_get l i) (sym c.requires) ∙ own)
    (slice_get_read places (length places) i place refl inside c.index.ensures)
    (c.way.ensures
    ∙ ap (λ (l : List Occurrence). way_in l (map (λ row. row.items) c.deref.result.now) x place) c.requires
    ∙ ap (λ (l : List (Vec Way)). way_in (occurrences d) (map (λ row. row.items) l) x place) c.deref.ensures.value)
    c.in_ok-push.ensures.items

pub returns : goal.returns
returns g c =
    let d = g.N.Names.tree c.args.names.now in
    let i = c.loop-number.number in
    let past = c.loop-number-test.false in
    let most = c.loop-number.auto.number-end in
    let many = ap length c.requires in
    all_ways d i c.loop-number.ways.items c.loop-number.invariant (omega (arith, past, most, many))
