-- By what occurrences are chosen, from that of their activators.
use Rattle.std.proofs.Common.{◌≡◌, ◌<◌, ◌≤◌, ◌+◌, ◌++◌, ◌∙◌, ℕ, zero, suc, Bool, true, false, cond, List, [], ◌∷◌, Option, None, Some, length, get_or, drop, refl, sym, ap, ap₂, arith, ⊎_elim, subst}
use Rattle.std.specs.Prelude.{slice_get, option_map}
use Rattle.std.specs.Borrow.{Bor}
use Rattle.std.specs.Global.{Vec}
use Rattle.std.specs.Option.{option_and_then}
use Rattle.std.proofs.lemmas.Bool.{cases_lt}
use Rattle.std.proofs.lemmas.List.{get_or-map, length-append, length-map}
use Rattle.std.proofs.lemmas.Option.{slice_get-map, slice_get-get_or, slice_get_past, get_or_from_slice_get}
use Rattle.lisa_tree.specs.Descriptions.{DescriptionTree}
use Rattle.description_tables.proofs.Lists.{one_more}
use Rattle.scene_paths.proofs.lisa_machine_proofs.Entries.{get_left, get_right}
use Rattle.stage_checks.specs.Graphs.{names_in}
use Rattle.scene_paths.specs.activation_trees.declared.parts.Occurrence.{Occurrence}
use Rattle.scene_paths.specs.activation_trees.Activators.{HasActivator, IsChild}
use Rattle.scene_paths.specs.activation_trees.Starting.{activating_names}
use Rattle.scene_paths.specs.activation_trees.Unfolding.{occurrences}
use Rattle.scene_paths.specs.activation_trees.Places.{AreParentsBefore, ArePlaces, name_by, place}
use Rattle.scene_paths.proofs.activation_trees_proofs.Lying.{has_activator}
use Rattle.scene_paths.specs.lisa_forms.declared.way.Way.{Way as Activation}
use Rattle.scene_paths.specs.lisa_forms.declared.way.Way.TheVariants as activations
use Rattle.scene_paths.specs.lisa_forms.Choosing.{child_place}
use Rattle.scene_paths.specs.lisa_forms.Ways.{by_place, by_name, by_activator, way_below, way}
use Rattle.lowered_words.specs.declared.links.Link.{Link}
use Rattle.lowered_words.specs.declared.way_at.Chosen.{Chosen}
use Rattle.lowered_words.specs.Ways.{Whole, Child}
use Rattle.lowered_words.specs.Choosing.{Choice, at_part, child_choice, chosen_by, choice_below, choice_within, choice}
use Rattle.lowered_words.specs.Links as links
use Rattle.lowered_words.specs.Kept.{HasWays, HasChoices, AreChoices, placed, chosen_at, rows_of, all_rows}

-- ---- rows of names

pub one_row : (d : DescriptionTree) (all : List Occurrence) (i : ℕ) (x : Occurrence) → i < length all → x ≡ get_or all i x → all_rows d (drop i all) ≡ (activating_names d x.operation ∷ []) ++ all_rows d (drop (i + 1) all)
one_row d all i x h is = ap (all_rows d) (one_more all i x h is)

pub name_read : (row : List (Bor (List ℕ))) (k : ℕ) (n : Bor (List ℕ)) → k < length row → n ≡ get_or row k n → slice_get (names_in row) k ≡ Some n.now
name_read [] k n h is = absurd (omega (arith, h))
name_read (m ∷ row) zero n h is = ap (λ (x : Bor (List ℕ)). Some x.now) (sym is)
name_read (m ∷ row) (suc k) n h is = name_read row k n (omega (arith, h)) is

pub name_past : (row : List (Bor (List ℕ))) (k : ℕ) → length row ≤ k → slice_get (names_in row) k ≡ None
name_past [] zero h = refl
name_past [] (suc k) h = refl
name_past (m ∷ row) zero h = absurd (omega (arith, h))
name_past (m ∷ row) (suc k) h = name_past row k (omega (arith, h))

-- the row of an occurrence
row_is : (d : DescriptionTree) (rows : List (Vec (Bor (List ℕ)))) (all : List Occurrence) (p : ℕ) (row : Vec (Bor (List ℕ))) (a : Occurrence) → rows_of rows ≡ all_rows d all
    → p < length rows → row ≡ get_or rows p row → slice_get all p ≡ Some a → names_in row.items ≡ activating_names d a.operation
row_is d rows all p row a are h is at =
    ap (λ (r : Vec (Bor (List ℕ))). names_in r.items) is
    ∙ sym (get_or-map (λ (r : Vec (Bor (List ℕ))). names_in r.items) rows p row [] h)
    ∙ ap (λ (l : List (List (List ℕ))). get_or l p []) are
    ∙ get_or_from_slice_get (all_rows d all) p (activating_names d a.operation) []
    (slice_get-map (λ (x : Occurrence). activating_names d x.operation) all p ∙ ap (option_map (λ (x : Occurrence). activating_names d x.operation)) at)

pub rows_counted : (d : DescriptionTree) (rows : List (Vec (Bor (List ℕ)))) (all : List Occurrence) → rows_of rows ≡ all_rows d all → length rows ≡ length all
rows_counted d rows all are =
    sym (length-map rows (λ (r : Vec (Bor (List ℕ))). names_in r.items))
    ∙ ap length are
    ∙ length-map all (λ (x : Occurrence). activating_names d x.operation)

-- ---- one occurrence

module _ (d : DescriptionTree) where
  pub parents_before : AreParentsBefore (occurrences d)
  parents_before k p x e parent = let c : IsChild d k x p = subst (λ (o : Option ℕ). HasActivator d k x o) parent (has_activator d k x e) in c.before

  -- further levels change nothing
  within_same : (m n k : ℕ) → k < m → k < n → choice_within m d k ≡ choice_within n d k
  within_same zero n k h l = absurd (omega (arith, h))
  within_same (suc m) zero k h l = absurd (omega (arith, l))
  within_same (suc m) (suc n) k h l = by (slice_get (occurrences d) k) refl (within_same m n)
    where
      above : (x : Occurrence) → slice_get (occurrences d) k ≡ Some x → ((p : ℕ) → p < m → p < n → choice_within m d p ≡ choice_within n d p)
          → (q : Option ℕ) → x.parent ≡ q → option_and_then (choice_within m d) q ≡ option_and_then (choice_within n d) q
      above x there same None e = refl
      above x there same (Some p) e = let b = parents_before k p x there e in same p (omega (arith, b, h)) (omega (arith, b, l))

      by : (o : Option Occurrence) → slice_get (occurrences d) k ≡ o → ((p : ℕ) → p < m → p < n → choice_within m d p ≡ choice_within n d p)
          → choice_below (choice_within m d) d k o ≡ choice_below (choice_within n d) d k o
      by None there same = refl
      by (Some x) there same = ap (chosen_by (way d k x) x.operation) (above x there same x.parent refl)

  module _ (k : ℕ) (x : Occurrence) (there : slice_get (occurrences d) k ≡ Some x) where
    above_same : (q : Option ℕ) → x.parent ≡ q → option_and_then (choice_within k d) q ≡ option_and_then (choice d) q
    above_same None e = refl
    above_same (Some p) e = let b = parents_before k p x there e in within_same k (suc p) p b (omega arith)

    -- by what its activator is chosen
    choice_next : (q : Option ℕ) → x.parent ≡ q → choice d k ≡ chosen_by (way_below d k x q) x.operation (option_and_then (choice d) q)
    choice_next q e =
        ap (choice_below (choice_within k d) d k) there
        ∙ ap (λ (p : Option ℕ). chosen_by (way_below d k x p) x.operation (option_and_then (choice_within k d) p)) e
        ∙ ap (chosen_by (way_below d k x q) x.operation) (above_same q e)

    pub none_above : x.parent ≡ None → choice d k ≡ None
    none_above e = choice_next None e

    module _ (p : ℕ) (a : Occurrence) (parent : x.parent ≡ Some p) (at : slice_get (occurrences d) p ≡ Some a) where
      abbrev by_both : Bool → Bool → Option (List ℕ) → Option Choice
      by_both past own n = chosen_by (cond past (by_name d a.operation n) (cond own activations.Top activations.Outside)) x.operation (choice d p)

      below : (past own : Bool) (n : Option (List ℕ)) → a.past_root ≡ past → x.past_root ≡ own → name_by d p a.operation k ≡ n → choice d k ≡ by_both past own n
      below past own n is_past is_own is_named =
          choice_next (Some p) parent
          ∙ ap (λ (w : Activation). chosen_by w x.operation (choice d p)) (ap (by_activator d k x p) at)
          ∙ ap₂ (λ (s t : Bool). by_both s t (name_by d p a.operation k)) is_past is_own
          ∙ ap (by_both past own) is_named

      pub outside : a.past_root ≡ false → x.past_root ≡ false → choice d k ≡ None
      outside is_past is_own = below false false (name_by d p a.operation k) is_past is_own refl

      pub top : a.past_root ≡ false → x.past_root ≡ true → choice d k ≡ Some (at_part (Whole x.operation))
      top is_past is_own = below false true (name_by d p a.operation k) is_past is_own refl

      pub nameless : a.past_root ≡ true → name_by d p a.operation k ≡ None → choice d k ≡ None
      nameless is_past none = below true x.past_root None is_past refl none

      pub named : (n : List ℕ) → a.past_root ≡ true → name_by d p a.operation k ≡ Some n → choice d k ≡ chosen_by (by_place (child_place d a.operation n)) x.operation (choice d p)
      named n is_past is = below true x.past_root (Some n) is_past refl is

      -- the name at its place in the row of its activator
      pub row_name : (rows : List (Vec (Bor (List ℕ)))) (places : List ℕ) (row : Vec (Bor (List ℕ))) (items : List (Bor (List ℕ))) (i : ℕ) (n : Option (List ℕ)) → rows_of rows ≡ all_rows d (occurrences d)
          → p < length rows → row ≡ get_or rows p row → items ≡ row.items → ArePlaces (occurrences d) places → slice_get places k ≡ Some i → n ≡ slice_get (names_in items) i → name_by d p a.operation k ≡ n
      row_name rows places row items i n are h is of are_places placed_at found =
          let same : i ≡ place (occurrences d) p k = same_place (sym placed_at ∙ are_places.each k p x there parent) in
          sym (found
          ∙ ap (λ (l : List (Bor (List ℕ))). slice_get (names_in l) i) of
          ∙ ap (λ (l : List (List ℕ)). slice_get l i) (row_is d rows (occurrences d) p row a are h is at)
          ∙ ap (slice_get (activating_names d a.operation)) same)
        where
          same_place : {m n : ℕ} → ◌≡◌ {A = Option ℕ} (Some m) (Some n) → m ≡ n
          same_place e = cc e

-- ---- as they are kept

module _ (d : DescriptionTree) (all : List Link) (has : HasWays d all) where
  abbrev kept : Option ℕ → Bool → Chosen
  kept place inside = record { at = record { place = place }; inside = inside }

  pub whole_kept : (o : ℕ) (place : Option ℕ) → place ≡ links.whole_place all o → kept place true ≡ placed d (at_part (Whole o))
  whole_kept o place is = ap (λ (p : Option ℕ). kept p true) (is ∙ has.wholes o)

  pub child_kept : (i o : ℕ) (c : Choice) (above : Chosen) (place : Option ℕ) → above ≡ placed d c → above.inside ≡ true → place ≡ links.child_place all above.at.place i o → kept place true ≡ placed d (child_choice i o c)
  child_kept i o c above place same inside is =
      ap (λ (p : Option ℕ). kept p true) (is ∙ ap (λ (a : Chosen). links.child_place all a.at.place i o) same ∙ has.children c.way i o)
      ∙ sym (ap (λ (b : Bool). placed d (cond b (at_part (Child c.way i o)) c)) (sym (ap (λ (a : Chosen). a.inside) same) ∙ inside))

pub beside_kept : (d : DescriptionTree) (i o : ℕ) (c : Choice) (above : Chosen) → above ≡ placed d c → above.inside ≡ false → above ≡ placed d (child_choice i o c)
beside_kept d i o c above same inside = same ∙ sym (ap (λ (b : Bool). placed d (cond b (at_part (Child c.way i o)) c)) (sym (ap (λ (a : Chosen). a.inside) same) ∙ inside))

module _ (d : DescriptionTree) (o : ℕ) where
  -- what is activated by a name, by what its activator is chosen
  abbrev chosen_name : Option ℕ → Option Choice → Option Choice
  chosen_name i c = chosen_by (by_place i) o c

  pub none_named : (i : Option ℕ) (c : Option Choice) → None ≡ option_map (placed d) c → None ≡ option_map (placed d) (chosen_name i c)
  none_named None None e = refl
  none_named (Some i) None e = refl
  none_named i (Some c) e = absurd (cc e)

  pub apart_named : (i : Option ℕ) (above : Chosen) (c : Option Choice) → Some above ≡ option_map (placed d) c → i ≡ None
      → Some (let beside : Chosen = record { at = above.at; inside = false } in beside) ≡ option_map (placed d) (chosen_name i c)
  apart_named None above None e is = absurd (cc e)
  apart_named None above (Some c) e is = ap (λ (a : Chosen). Some (let beside : Chosen = record { at = a.at; inside = false } in beside)) (same_chosen e)
    where
      same_chosen : {a b : Chosen} → ◌≡◌ {A = Option Chosen} (Some a) (Some b) → a ≡ b
      same_chosen e = cc e
  apart_named (Some i) above c e is = absurd (cc is)

  pub child_named : (i : Option ℕ) (k : ℕ) (above out : Chosen) (c : Option Choice) → Some above ≡ option_map (placed d) c → i ≡ Some k
      → ((own : Choice) → above ≡ placed d own → out ≡ placed d (child_choice k o own)) → Some out ≡ option_map (placed d) (chosen_name i c)
  child_named None k above out c e is made = absurd (cc is)
  child_named (Some i) k above out None e is made = absurd (cc e)
  child_named (Some i) k above out (Some c) e is made =
      ap (λ (a : Chosen). Some a) (made c (same_chosen e))
      ∙ ap (λ (n : ℕ). Some (placed d (child_choice n o c))) (sym (same_number is))
    where
      same_chosen : {a b : Chosen} → ◌≡◌ {A = Option Chosen} (Some a) (Some b) → a ≡ b
      same_chosen e = cc e

      same_number : {m n : ℕ} → ◌≡◌ {A = Option ℕ} (Some m) (Some n) → m ≡ n
      same_number e = cc e

-- ---- all of them

module _ (d : DescriptionTree) where
  pub none_chosen : AreChoices d 0 []
  none_chosen = record { counted = refl; each = λ k h. absurd (omega (arith, h)) }

  pub one_chosen : (i : ℕ) (all next : List (Option Chosen)) (c : Option Chosen) → AreChoices d i all → c ≡ option_map (placed d) (choice d i) → next ≡ all ++ c ∷ [] → AreChoices d (i + 1) next
  one_chosen i all next c are is pushed = subst (AreChoices d (i + 1)) (sym pushed) (record { counted = (let l = length-append all (c ∷ []) in let n = are.counted in omega (arith, l, n)); each = each })
    where
      before : (k : ℕ) → k < i → (o : Option (Option Chosen)) → slice_get all k ≡ o → chosen_at (all ++ c ∷ []) k ≡ chosen_at all k
      before k h None e = absurd (let w = slice_get-get_or all k c (let n = are.counted in omega (arith, n, h)) in cc (sym e ∙ w))
      before k h (Some x) e = ap (option_and_then (λ y. y)) (get_left all (c ∷ []) k x e ∙ sym e)

      each : (k : ℕ) → k < i + 1 → chosen_at (all ++ c ∷ []) k ≡ option_map (placed d) (choice d k)
      each k h = ⊎_elim
          (λ (below : k < i). before k below (slice_get all k) refl ∙ are.each k below)
          (λ (above : i ≤ k).
          let same : k ≡ i = omega (arith, above, h) in
          let last : k ≡ length all + 0 = (let n = are.counted in omega (arith, same, n)) in
          ap (λ (j : ℕ). chosen_at (all ++ c ∷ []) j) last
          ∙ ap (option_and_then (λ y. y)) (get_right all (c ∷ []) 0 c refl)
          ∙ is
          ∙ ap (λ (j : ℕ). option_map (placed d) (choice d j)) (sym same))
          (cases_lt k i)

  pub all_chosen : (i : ℕ) (all : List (Option Chosen)) → AreChoices d i all → length (occurrences d) ≤ i → HasChoices d all
  all_chosen i all are past k = ⊎_elim
      (λ (below : k < i). are.each k below)
      (λ (above : i ≤ k).
      ap (option_and_then (λ y. y)) (slice_get_past all k (let n = are.counted in omega (arith, n, above)))
      ∙ sym (ap (option_map (placed d)) (ap (choice_below (choice_within k d) d k) (slice_get_past (occurrences d) k (omega (arith, past, above))))))
      (cases_lt k i)

  -- the one before that activates it
  pub chosen_before : (i p : ℕ) (all : List (Option Chosen)) (c : Option Chosen) → AreChoices d i all → p < i → c ≡ get_or all p c → c ≡ option_map (placed d) (choice d p)
  chosen_before i p all c are h is =
      is ∙ sym (ap (option_and_then (λ y. y)) (slice_get-get_or all p c (let n = are.counted in omega (arith, n, h)))) ∙ are.each p h

  pub chosen_read : (i p : ℕ) (all : List (Option Chosen)) (x : Option Chosen) → AreChoices d i all → p < i → get_or all p x ≡ option_map (placed d) (choice d p)
  chosen_read i p all x are h = sym (ap (option_and_then (λ y. y)) (slice_get-get_or all p x (let n = are.counted in omega (arith, n, h)))) ∙ are.each p h
