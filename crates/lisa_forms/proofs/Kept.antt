-- The ways of occurrences, by rows of their activators.
use Rattle.std.proofs.Common.{◌≡◌, ◌<◌, ◌≤◌, ◌+◌, ◌++◌, ◌∙◌, ℕ, suc, Bool, true, false, cond, List, [], ◌∷◌, Option, None, Some, length, map, drop, drop-cons, get_or, refl, sym, ap, ap₂, add-one, arith, ⊎_elim, subst}
use Rattle.std.specs.Borrow.{Bor}
use Rattle.std.specs.Prelude.{slice_get, unwrap_or, option_map, slice_index_or, position, not, nat_lt}
use Rattle.std.specs.List.{position_or_len}
use Rattle.std.specs.Option.{option_map_or, option_to_list}
use Rattle.std.proofs.lemmas.Bool.{cases_lt}
use Rattle.std.proofs.lemmas.List.{length-append}
use Rattle.std.proofs.lemmas.Option.{slice_get-map, slice_get_within, slice_get-get_or, get_or_from_slice_get, same_Some}
use Rattle.lisa_tree.specs.declared.descriptions.CodingItem.{CodingItem}
use Rattle.lisa_tree.specs.Descriptions.{DescriptionTree}
use Rattle.lisa_tree.specs.Same.{same_name}
use Rattle.stage_checks.specs.Graphs.{names_in}
use Rattle.stage_checks.proofs.Rows.{regroup}
use Rattle.form_patterns.specs.instruction_forms.Described.{items_at}
use Rattle.form_promises.proofs.lisa_machine_proofs.Entries.{get_left, get_right}
use Rattle.description_sizes.specs.activation_trees.declared.parts.Occurrence.{Occurrence}
use Rattle.description_sizes.specs.activation_trees.Activators.{HasActivator, IsChild}
use Rattle.description_sizes.specs.activation_trees.Starting.{activating_names}
use Rattle.description_sizes.specs.activation_trees.Unfolding.{occurrences}
use Rattle.description_sizes.specs.activation_trees.Places.{AreParentsBefore, ArePlaces, name_by, place}
use Rattle.description_sizes.proofs.activation_trees_proofs.Lying.{has_activator}
use Rattle.lisa_forms.specs.declared.way.Way.{Way}
use Rattle.lisa_forms.specs.declared.way.Way.TheVariants as ways
use Rattle.lisa_forms.specs.Choosing.{child_place, child_name, child_names}
use Rattle.lisa_forms.specs.Ways.{by_place, is_name, by_name, by_activator, way_below, way, AreWays, ways_past, ways_under, way_in_row, way_in}

-- activators stand before what they activate
pub parents_before : (d : DescriptionTree) → AreParentsBefore (occurrences d)
parents_before d k p x e parent = let c : IsChild d k x p = subst (λ (o : Option ℕ). HasActivator d k x o) parent (has_activator d k x e) in c.before

-- ---- one more

pub one_item : (all : List CodingItem) (i : ℕ) (x : CodingItem) → i < length all → x ≡ get_or all i x → child_names (drop i all) ≡ option_to_list (child_name x) ++ child_names (drop (i + 1) all)
one_item all i x h e =
    ap child_names (drop-cons all i x h)
    ∙ ap (λ (y : CodingItem). option_to_list (child_name y) ++ child_names (drop (suc i) all)) (sym e)
    ∙ ap (λ (m : ℕ). option_to_list (child_name x) ++ child_names (drop m all)) (sym (add-one i))

-- the place of a name
before_name : (n : List ℕ) (all : List (Bor (List ℕ))) → position_or_len (is_name n) all ≡ position_or_len (same_name n) (names_in all)
before_name n [] = refl
before_name n (x ∷ all) = ap (λ (k : ℕ). cond (not (same_name n x.now)) (1 + k) 0) (before_name n all)

as_many : (all : List (Bor (List ℕ))) → length all ≡ length (names_in all)
as_many [] = refl
as_many (x ∷ all) = ap suc (as_many all)

pub same_place : (n : List ℕ) (all : List (Bor (List ℕ))) → position (is_name n) all ≡ position (same_name n) (names_in all)
same_place n all = ap₂ (λ (k many : ℕ). cond (nat_lt k many) (Some k) None) (before_name n all) (as_many all)

pub next_way : (d : DescriptionTree) (o : ℕ) (all : List (Bor (List ℕ))) (i : ℕ) (x : Bor (List ℕ)) (children : List (Bor (List ℕ))) (row next : List Way) (w : Way) → i < length all
    → names_in children ≡ child_names (items_at d o) → next ≡ row ++ w ∷ [] → w ≡ by_place (position (same_name (get_or all i x).now) (names_in children))
    → row ++ map (λ (n : List ℕ). by_place (child_place d o n)) (names_in (drop i all)) ≡ map (λ (n : List ℕ). by_place (child_place d o n)) (names_in all)
    → next ++ map (λ (n : List ℕ). by_place (child_place d o n)) (names_in (drop (i + 1) all)) ≡ map (λ (n : List ℕ). by_place (child_place d o n)) (names_in all)
next_way d o all i x children row next w h of_children pushed is so_far = regroup row (w ∷ []) next (ways_of (drop (i + 1) all)) (ways_of all) (ways_of (drop i all)) pushed so_far one
  where
    ways_of : List (Bor (List ℕ)) → List Way
    ways_of names = map (λ (n : List ℕ). by_place (child_place d o n)) (names_in names)

    n : List ℕ
    n = (get_or all i x).now

    one : ways_of (drop i all) ≡ (w ∷ []) ++ ways_of (drop (i + 1) all)
    one =
        ap ways_of (drop-cons all i x h)
        ∙ ap (λ (m : ℕ). by_place (child_place d o n) ∷ ways_of (drop m all)) (sym (add-one i))
        ∙ ap (λ (v : Way). v ∷ ways_of (drop (i + 1) all)) (sym (is ∙ ap (λ (l : List (List ℕ)). by_place (position (same_name n) l)) of_children))

pub one_row : (d : DescriptionTree) (all : List Occurrence) (i : ℕ) (x : Occurrence) → i < length all → map (ways_under d) (drop i all) ≡ (ways_under d (get_or all i x) ∷ []) ++ map (ways_under d) (drop (i + 1) all)
one_row d all i x h =
    ap (map (ways_under d)) (drop-cons all i x h)
    ∙ ap (λ (m : ℕ). ways_under d (get_or all i x) ∷ map (ways_under d) (drop m all)) (sym (add-one i))

-- ---- a row

by_slice : (d : DescriptionTree) (o : ℕ) (n : Option (List ℕ)) → unwrap_or (option_map (λ (m : List ℕ). by_place (child_place d o m)) n) ways.Outside ≡ by_name d o n
by_slice d o None = refl
by_slice d o (Some n) = refl

in_row : (d : DescriptionTree) (o i : ℕ) → unwrap_or (slice_get (ways_past d o) i) ways.Outside ≡ by_name d o (slice_get (activating_names d o) i)
in_row d o i =
    ap (λ (w : Option Way). unwrap_or w ways.Outside) (slice_get-map (λ (m : List ℕ). by_place (child_place d o m)) (activating_names d o) i)
    ∙ by_slice d o (slice_get (activating_names d o) i)

module _ (d : DescriptionTree) (rows : List (List Way)) (is_rows : rows ≡ map (ways_under d) (occurrences d)) where
  row_at : (p : ℕ) (a : Occurrence) → slice_get (occurrences d) p ≡ Some a → slice_index_or rows p [] ≡ ways_under d a
  row_at p a e =
      get_or_from_slice_get rows p (ways_under d a) []
      (ap (λ (l : List (List Way)). slice_get l p) is_rows ∙ slice_get-map (ways_under d) (occurrences d) p ∙ ap (option_map (ways_under d)) e)

  -- the way of an occurrence at its place
  way_is : (k i : ℕ) (x : Occurrence) → slice_get (occurrences d) k ≡ Some x → ((p : ℕ) → x.parent ≡ Some p → i ≡ place (occurrences d) p k) → way_in (occurrences d) rows x i ≡ way d k x
  way_is k i x e is_place = by x.parent refl
    where
      by : (o : Option ℕ) → x.parent ≡ o → way_in_row (occurrences d) rows x i o ≡ way_below d k x o
      by None none = refl
      by (Some p) parent = at (slice_get (occurrences d) p) refl
        where
          inside : p < length (occurrences d)
          inside = let b = parents_before d k p x e parent in let w = slice_get_within (occurrences d) k x e in omega (arith, b, w)

          past : (a : Occurrence) → slice_get (occurrences d) p ≡ Some a → (t : Bool) → a.past_root ≡ t
              → cond t (unwrap_or (slice_get (slice_index_or rows p []) i) ways.Outside) (cond x.past_root ways.Top ways.Outside)
              ≡ cond t (by_name d a.operation (name_by d p a.operation k)) (cond x.past_root ways.Top ways.Outside)
          past a there true t =
              ap (λ (l : List Way). unwrap_or (slice_get l i) ways.Outside) (row_at p a there ∙ ap (λ (c : Bool). cond c (ways_past d a.operation) []) t)
              ∙ in_row d a.operation i
              ∙ ap (λ (j : ℕ). by_name d a.operation (slice_get (activating_names d a.operation) j)) (is_place p parent)
          past a there false t = refl

          at : (o : Option Occurrence) → slice_get (occurrences d) p ≡ o
              → cond (option_map_or (λ (a : Occurrence). a.past_root) o false) (unwrap_or (slice_get (slice_index_or rows p []) i) ways.Outside) (cond x.past_root ways.Top ways.Outside) ≡ by_activator d k x p o
          at None there = absurd (cc (sym there ∙ slice_get-get_or (occurrences d) p x inside))
          at (Some a) there = past a there a.past_root refl

-- ---- all of them

pub record AreSoFar (d : DescriptionTree) (i : ℕ) (all : List Way) : Type 0 where
  pub count : length all ≡ i
  pub each : (k : ℕ) (x : Occurrence) → k < i → slice_get (occurrences d) k ≡ Some x → slice_get all k ≡ Some (way d k x)

pub one_way : (d : DescriptionTree) (rows : List (List Way)) (places : List ℕ) (i : ℕ) (all next : List Way) (x : Occurrence) (p : ℕ) (w : Way)
    → rows ≡ map (ways_under d) (occurrences d) → ArePlaces (occurrences d) places → AreSoFar d i all → slice_get (occurrences d) i ≡ Some x → slice_get places i ≡ Some p → w ≡ way_in (occurrences d) rows x p
    → next ≡ all ++ w ∷ [] → AreSoFar d (i + 1) next
one_way d rows places i all next x p w is_rows are so_far at placed is pushed = subst (AreSoFar d (i + 1)) (sym pushed) (record { count = (let l = length-append all (w ∷ []) in let c = so_far.count in omega (arith, l, c)); each = each_next })
  where
    here : w ≡ way d i x
    here = is ∙ way_is d rows is_rows i p x at (λ q parent. same_Some p (place (occurrences d) q i) (sym placed ∙ are.each i q x at parent))

    each_next : (k : ℕ) (y : Occurrence) → k < i + 1 → slice_get (occurrences d) k ≡ Some y → slice_get (all ++ w ∷ []) k ≡ Some (way d k y)
    each_next k y h e = ⊎_elim
        (λ (below : k < i). get_left all (w ∷ []) k (way d k y) (so_far.each k y below e))
        (λ (above : i ≤ k).
        let same : k ≡ i = omega (arith, above, h) in
        let one : x ≡ y = same_Some x y (sym at ∙ ap (slice_get (occurrences d)) (sym same) ∙ e) in
        let last : k ≡ length all + 0 = (let c = so_far.count in omega (arith, same, c)) in
        ap (slice_get (all ++ w ∷ [])) last ∙ get_right all (w ∷ []) 0 w refl ∙ ap (λ (v : Way). Some v) (here ∙ ap (way d i) one ∙ ap (λ (n : ℕ). way d n y) (sym same)))
        (cases_lt k i)

pub all_ways : (d : DescriptionTree) (i : ℕ) (all : List Way) → AreSoFar d i all → i ≡ length (occurrences d) → AreWays d all
all_ways d i all so_far e = record { count = so_far.count ∙ e; each = λ k x at. so_far.each k x (let w = slice_get_within (occurrences d) k x at in omega (arith, w, e)) at }
