use Rattle.std.proofs.Common.{rules, ◌≡◌, ◌<◌, ◌∙◌, ℕ, List, None, Some, false, length, get_or, sym, ap, subst, arith}
use Rattle.std.specs.Prelude.{option_map, slice_get}
use Rattle.std.specs.Borrow.{Bor}
use Rattle.std.proofs.lemmas.Option.{slice_get-get_or}
use Rattle.lisa_tree.specs.Descriptions.{DescriptionTree}
use Rattle.scene_paths.specs.activation_trees.declared.parts.Occurrence.{Occurrence}
use Rattle.scene_paths.specs.activation_trees.Unfolding.{occurrences}
use Rattle.scene_paths.specs.activation_trees.Places.{ArePlaces}
use Rattle.scene_paths.specs.Lookups.{tree_of}
use Rattle.lowered_words.specs.declared.way_at.Chosen.{Chosen}
use Rattle.lowered_words.specs.Choosing.{choice}
use Rattle.lowered_words.specs.Kept.{placed, all_rows}
use Rattle.lowered_words.proofs.Choosing.{parents_before, rows_counted, none_above, outside, top, nameless, named, row_name, chosen_read}
use Rattle.lowered_words.proofs.occurrences.chosen.Goals as goal

abbrev nobody : Occurrence
nobody = record { operation = 0; parent = None; from = None; stage = None; past_root = false }

-- an occurrence of a list that is that of the description
there : (d : DescriptionTree) (all : List Occurrence) (k : ℕ) → all ≡ occurrences d → k < length all → slice_get (occurrences d) k ≡ Some (get_or all k nobody)
there d all k is h = ap (λ (l : List Occurrence). slice_get l k) (sym is) ∙ slice_get-get_or all k nobody h

earlier : (d : DescriptionTree) (all : List Occurrence) (k p : ℕ) → all ≡ occurrences d → k < length all → (get_or all k nobody).parent ≡ Some p → p < k
earlier d all k p is h parent = parents_before d k p (get_or all k nobody) (there d all k is h) parent

inside : (d : DescriptionTree) (all : List Occurrence) (k p : ℕ) → all ≡ occurrences d → k < length all → (get_or all k nobody).parent ≡ Some p → p < length all
inside d all k p is h parent = let b = earlier d all k p is h parent in omega (arith, b, h)

pub overflow_cast-parent : goal.overflow_cast-parent
overflow_cast-parent c =
    let b = earlier (tree_of c.args.described.now) c.args.all.now c.args.number c.in-Some.parent c.requires.occurrences c.requires.within c.in-Some.is in
    let f = c.ranges.number.fits in
    omega (arith, b, f)

pub bounds-all-parent : goal.bounds-all-parent
bounds-all-parent c = inside (tree_of c.args.described.now) c.args.all.now c.args.number c.in-Some.parent c.requires.occurrences c.requires.within c.in-Some.is

pub bounds-before-parent : goal.bounds-before-parent
bounds-before-parent c =
    let b = earlier (tree_of c.args.described.now) c.args.all.now c.args.number c.in-Some.parent c.requires.occurrences c.requires.within c.in-Some.is in
    let n = c.requires.before.counted in
    omega (arith, b, n)

pub returns-in-None : goal.returns-in-None
returns-in-None c =
    let d = tree_of c.args.described.now in
    sym (ap (option_map (placed d)) (none_above d c.args.number (get_or c.args.all.now c.args.number nobody) (there d c.args.all.now c.args.number c.requires.occurrences c.requires.within) c.in-None.is))

pub returns-else-own : goal.returns-else-own
returns-else-own c =
    let d = tree_of c.args.described.now in
    let all = c.args.all.now in
    let k = c.args.number in
    let p = c.in-Some.parent in
    let low = inside d all k p c.requires.occurrences c.requires.within c.in-Some.is in
    sym (ap (option_map (placed d))
    (outside d k (get_or all k nobody) (there d all k c.requires.occurrences c.requires.within) p (get_or all p nobody) c.in-Some.is (there d all p c.requires.occurrences low) c.if-above.false c.if-own.false))

pub returns-then-own : goal.returns-then-own
returns-then-own c =
    let d = tree_of c.args.described.now in
    let all = c.args.all.now in
    let k = c.args.number in
    let p = c.in-Some.parent in
    let low = inside d all k p c.requires.occurrences c.requires.within c.in-Some.is in
    ap (λ (x : Chosen). Some x) (c.chosen_whole.ensures d c.requires.ways)
    ∙ sym (ap (option_map (placed d))
    (top d k (get_or all k nobody) (there d all k c.requires.occurrences c.requires.within) p (get_or all p nobody) c.in-Some.is (there d all p c.requires.occurrences low) c.if-above.false c.if-own.true))

pub returns-in-None-name_at : goal.returns-in-None-name_at
returns-in-None-name_at c =
    let d = tree_of c.args.described.now in
    let all = c.args.all.now in
    let k = c.args.number in
    let p = c.in-Some.parent in
    let rows = c.args.rows.now in
    let places = c.args.places.now in
    let low = inside d all k p c.requires.occurrences c.requires.within c.in-Some.is in
    let x = get_or all k nobody in
    let a = get_or all p nobody in
    let own = there d all k c.requires.occurrences c.requires.within in
    let above = there d all p c.requires.occurrences low in
    let are : ArePlaces (occurrences d) places = subst (λ (l : List Occurrence). ArePlaces l places) c.requires.occurrences c.requires.places in
    let many = rows_counted d rows all c.requires.rows in
    let named_by = row_name d k x own p a c.in-Some.is above rows places c.index-rows-parent.result c.deref.result.now (get_or places k 0) None (c.requires.rows ∙ ap (all_rows d) c.requires.occurrences)
    (omega (arith, many, low)) c.index-rows-parent.is c.deref.ensures.value are (slice_get-get_or places k 0 (let n = c.requires.places.count in let h = c.requires.within in omega (arith, n, h)))
    (sym (ap (option_map (λ (n : Bor (List ℕ)). n.now)) c.in-None-name_at.is) ∙ c.name_at.ensures) in
    sym (ap (option_map (placed d)) (nameless d k x own p a c.in-Some.is above c.if-above.true named_by))

pub returns-in-Some-name_at : goal.returns-in-Some-name_at
returns-in-Some-name_at c =
    let d = tree_of c.args.described.now in
    let all = c.args.all.now in
    let k = c.args.number in
    let p = c.in-Some.parent in
    let rows = c.args.rows.now in
    let places = c.args.places.now in
    let low = inside d all k p c.requires.occurrences c.requires.within c.in-Some.is in
    let before = earlier d all k p c.requires.occurrences c.requires.within c.in-Some.is in
    let x = get_or all k nobody in
    let a = get_or all p nobody in
    let n = c.in-Some-name_at.name.now in
    let own = there d all k c.requires.occurrences c.requires.within in
    let above = there d all p c.requires.occurrences low in
    let are : ArePlaces (occurrences d) places = subst (λ (l : List Occurrence). ArePlaces l places) c.requires.occurrences c.requires.places in
    let many = rows_counted d rows all c.requires.rows in
    let named_by = row_name d k x own p a c.in-Some.is above rows places c.index-rows-parent.result c.deref.result.now (get_or places k 0) (Some n) (c.requires.rows ∙ ap (all_rows d) c.requires.occurrences)
    (omega (arith, many, low)) c.index-rows-parent.is c.deref.ensures.value are (slice_get-get_or places k 0 (let m = c.requires.places.count in let h = c.requires.within in omega (arith, m, h)))
    (sym (ap (option_map (λ (n : Bor (List ℕ)). n.now)) c.in-Some-name_at.is) ∙ c.name_at.ensures) in
    c.chosen_named.ensures (choice d p) (chosen_read d k p c.args.before.now _ c.requires.before before)
    ∙ sym (ap (option_map (placed d)) (named d k x own p a c.in-Some.is above n c.if-above.true named_by))

pub offset_bounds-all-parent : goal.offset_bounds-all-parent
offset_bounds-all-parent c =
    let low : c.in-Some.parent < length c.args.all.now = inside (tree_of c.args.described.now) c.args.all.now c.args.number c.in-Some.parent c.requires.occurrences c.requires.within c.in-Some.is in
    search rules
