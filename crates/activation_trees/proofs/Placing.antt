-- Names of what is activated, and places of occurrences, one after the other.
use Rattle.std.proofs.Common.{◌≡◌, ◌≢◌, ◌<◌, ◌≤◌, ◌+◌, ◌-◌, ◌^◌, ◌++◌, ◌∙◌, ℕ, zero, suc, Bool, true, false, cond, List, [], ◌∷◌, Option, None, Some, length, map, nat_eq, get_or, drop, drop-cons, refl, sym, ap, subst, arith, add-one, ⊎_elim}
use Rattle.std.specs.Borrow.{Bor}
use Rattle.std.specs.Prelude.{slice_get, filter, take}
use Rattle.std.specs.Option.{option_map_or}
use Rattle.std.proofs.Math.ListN.{set}
use Rattle.std.proofs.Math.Seq.{take-append_seam}
use Rattle.std.proofs.lemmas.Bool.{cases_eq, cases_lt, eq-eqb, ne_eqb}
use Rattle.std.proofs.lemmas.List.{get_or-set_same, get_or-set_other, length-set, length-append}
use Rattle.std.proofs.lemmas.List.Filters.{length-filter_more}
use Rattle.std.proofs.lemmas.Option.{slice_get_within, get_or_from_slice_get, same_Some}
use Rattle.lisa_tree.specs.Descriptions.{DescriptionTree}
use Rattle.stage_checks.specs.Graphs.{names_in}
use Rattle.stage_checks.proofs.Rows.{names_push, regroup}
use Rattle.lisa_machine.proofs.Entries.{get_left, get_right}
use Rattle.activation_trees.specs.declared.parts.Occurrence.{Occurrence}
use Rattle.activation_trees.specs.Starting.{plain_named, names_by}
use Rattle.activation_trees.specs.Places.{is_child_of, children_of, place, AreParentsBefore, ArePlaces, count_at, count_more}

-- ---- names

-- one more name
pub one_by : (d : DescriptionTree) (o : ℕ) (all : List (Bor (List ℕ))) (i : ℕ) (x : Bor (List ℕ)) → i < length all → x ≡ get_or all i x
    → names_by d o (names_in (drop i all)) ≡ map (λ (y : ℕ). x.now) (plain_named d o x.now) ++ names_by d o (names_in (drop (i + 1) all))
one_by d o all i x h e =
    ap (λ (l : List (Bor (List ℕ))). names_by d o (names_in l)) (drop-cons all i x h)
    ∙ ap (λ (y : Bor (List ℕ)). map (λ (z : ℕ). y.now) (plain_named d o y.now) ++ names_by d o (names_in (drop (suc i) all))) (sym e)
    ∙ ap (λ (m : ℕ). map (λ (y : ℕ). x.now) (plain_named d o x.now) ++ names_by d o (names_in (drop m all))) (sym (add-one i))

-- the same name once more
pub once_more : (x : Bor (List ℕ)) (row next : List (Bor (List ℕ))) (all : List ℕ) (i : ℕ) (front : List (List ℕ)) → i < length all → next ≡ row ++ x ∷ []
    → names_in row ++ map (λ (y : ℕ). x.now) (drop i all) ≡ front → names_in next ++ map (λ (y : ℕ). x.now) (drop (i + 1) all) ≡ front
once_more x row next all i front h pushed so_far =
    regroup (names_in row) (x.now ∷ []) (names_in next) (map (λ (y : ℕ). x.now) (drop (i + 1) all)) front (map (λ (y : ℕ). x.now) (drop i all))
    (ap names_in pushed ∙ names_push row x)
    so_far
    (ap (map (λ (y : ℕ). x.now)) (drop-cons all i 0 h) ∙ ap (λ (m : ℕ). x.now ∷ map (λ (y : ℕ). x.now) (drop m all)) (sym (add-one i)))

-- ---- places

-- The occurrences before a number were counted by their activators, and have their places.
pub record Placed (all : List Occurrence) (i : ℕ) (counts places : List ℕ) : Type 0 where
  pub many : length counts ≡ length all
  pub counted : (p : ℕ) → p < length all → get_or counts p 0 ≡ length (children_of p (take i all))
  pub count : length places ≡ i
  pub each : (k p : ℕ) (x : Occurrence) → k < i → slice_get all k ≡ Some x → x.parent ≡ Some p → slice_get places k ≡ Some (place all p k)

few : (p : Occurrence → Bool) (xs : List Occurrence) (i : ℕ) → length (filter p (take i xs)) ≤ i
few p xs zero = omega arith
few p [] (suc i) = omega arith
few p (x ∷ xs) (suc i) = by (p x) (few p xs i)
  where
    by : (b : Bool) → length (filter p (take i xs)) ≤ i → length (cond b (x ∷ filter p (take i xs)) (filter p (take i xs))) ≤ suc i
    by true h = omega (arith, h)
    by false h = omega (arith, h)

module _ (all : List Occurrence) (i : ℕ) (counts places : List ℕ) (so_far : Placed all i counts places) (x : Occurrence) (at : slice_get all i ≡ Some x) where
  within : i < length all
  within = slice_get_within all i x at

  read : (y : Occurrence) → get_or all i y ≡ x
  read y = get_or_from_slice_get all i x y at

  pub count_is_small : AreParentsBefore all → count_at counts x.parent ≤ i
  count_is_small inside = by x.parent refl
    where
      by : (o : Option ℕ) → x.parent ≡ o → count_at counts o ≤ i
      by None e = omega arith
      by (Some p) e =
          let w = inside i p x at e in
          let l = within in
          let c = so_far.counted p (omega (arith, w, l)) in
          let f = few (is_child_of p) all i in
          omega (arith, c, f)

  counted_next : AreParentsBefore all → (p : ℕ) → p < length all → get_or (count_more counts x.parent) p 0 ≡ length (children_of p (take (i + 1) all))
  counted_next inside p h = by x.parent refl
    where
      more : length (children_of p (take (i + 1) all)) ≡ length (children_of p (take i all)) + cond (is_child_of p x) 1 0
      more = length-filter_more (is_child_of p) all i x within ∙ ap (λ (y : Occurrence). length (children_of p (take i all)) + cond (is_child_of p y) 1 0) (read x)

      before : ℕ
      before = length (children_of p (take i all))

      by : (o : Option ℕ) → x.parent ≡ o → get_or (count_more counts o) p 0 ≡ length (children_of p (take (i + 1) all))
      by None e =
          so_far.counted p h
          ∙ (let n : before ≡ before + 0 = omega arith in n)
          ∙ ap (λ (q : Option ℕ). before + cond (option_map_or (nat_eq p) q false) 1 0) (sym e)
          ∙ sym more
      by (Some q) e = ⊎_elim
          (λ (same : p ≡ q).
          ap (get_or_of q) same
          ∙ get_or-set_same counts q (get_or counts q 0 + 1) 0 (let w = inside i q x at e in let m = so_far.many in let l = within in omega (arith, w, m, l))
          ∙ ap (λ (n : ℕ). n + 1) (ap (λ (r : ℕ). get_or counts r 0) (sym same) ∙ so_far.counted p h)
          ∙ ap (λ (b : Bool). before + cond b 1 0) (sym (eq-eqb p q same))
          ∙ ap (λ (r : Option ℕ). before + cond (option_map_or (nat_eq p) r false) 1 0) (sym e)
          ∙ sym more)
          (λ (other : p ≢ q).
          get_or-set_other counts q p (get_or counts q 0 + 1) 0 other
          ∙ so_far.counted p h
          ∙ (let n : before ≡ before + 0 = omega arith in n)
          ∙ ap (λ (b : Bool). before + cond b 1 0) (sym (ne_eqb p q other))
          ∙ ap (λ (r : Option ℕ). before + cond (option_map_or (nat_eq p) r false) 1 0) (sym e)
          ∙ sym more)
          (cases_eq p q)
        where
          get_or_of : ℕ → ℕ → ℕ
          get_or_of q r = get_or (set counts q (get_or counts q 0 + 1)) r 0

  counts_as_many : (o : Option ℕ) → length (count_more counts o) ≡ length counts
  counts_as_many None = refl
  counts_as_many (Some q) = length-set counts q (get_or counts q 0 + 1)

  pub next_placed : AreParentsBefore all → (next : ℕ) (counted row : List ℕ) → next ≡ count_at counts x.parent → counted ≡ count_more counts x.parent → row ≡ places ++ next ∷ [] → Placed all (i + 1) counted row
  next_placed inside next counted row is more pushed = subst (λ (l : List ℕ). Placed all (i + 1) l row) (sym more) (subst (λ (l : List ℕ). Placed all (i + 1) (count_more counts x.parent) l) (sym pushed) (record {
    many = counts_as_many x.parent ∙ so_far.many;
    counted = counted_next inside;
    count = (let l = length-append places (next ∷ []) in let c = so_far.count in omega (arith, l, c));
    each = each_next;
  }))
    where
      each_next : (k p : ℕ) (y : Occurrence) → k < i + 1 → slice_get all k ≡ Some y → y.parent ≡ Some p → slice_get (places ++ next ∷ []) k ≡ Some (place all p k)
      each_next k p y h e parent = ⊎_elim
          (λ (below : k < i). get_left places (next ∷ []) k (place all p k) (so_far.each k p y below e parent))
          (λ (above : i ≤ k).
          let same : k ≡ i = omega (arith, above, h) in
          let one : y ≡ x = same_Some y x (sym e ∙ ap (slice_get all) same ∙ at) in
          let p_is : x.parent ≡ Some p = ap (λ (z : Occurrence). z.parent) (sym one) ∙ parent in
          let last : k ≡ length places + 0 = (let c = so_far.count in omega (arith, same, c)) in
          ap (slice_get (places ++ next ∷ [])) last
          ∙ get_right places (next ∷ []) 0 next refl
          ∙ ap (λ (n : ℕ). Some n) (is ∙ ap (count_at counts) p_is ∙ so_far.counted p (let w = inside i p x at p_is in let l = within in omega (arith, w, l)) ∙ ap (λ (n : ℕ). place all p n) (sym same)))
          (cases_lt k i)

-- at first none was counted
pub none_placed : (all : List Occurrence) (counts : List ℕ) → length counts ≡ length all → ((p : ℕ) → p < length all → get_or counts p 0 ≡ 0) → Placed all 0 counts []
none_placed all counts many zeros = record { many = many; counted = zeros; count = refl; each = λ k p x h e parent. absurd (omega (arith, h)) }

-- at last all have their places
pub all_placed : (all : List Occurrence) (i : ℕ) (counts places : List ℕ) → Placed all i counts places → length all ≤ i → i ≤ length all → ArePlaces all places
all_placed all i counts places so_far h g = record {
  count = (let c = so_far.count in omega (arith, c, h, g));
  each = λ k p x e parent. so_far.each k p x (let w = slice_get_within all k x e in omega (arith, w, h)) e parent;
}

-- a slice of all counts is written back
pub written_back : (n : ℕ) (counts written : List ℕ) (o : Option ℕ) → n ≡ length counts → written ≡ count_more counts o → take n (written ++ drop (length written) counts) ≡ count_more counts o
written_back n counts written o is e =
    ap (λ (m : ℕ). take m (written ++ drop (length written) counts)) (is ∙ sym (ap length e ∙ as_many o))
    ∙ take-append_seam written (drop (length written) counts)
    ∙ e
  where
    as_many : (p : Option ℕ) → length (count_more counts p) ≡ length counts
    as_many None = refl
    as_many (Some q) = length-set counts q (get_or counts q 0 + 1)
