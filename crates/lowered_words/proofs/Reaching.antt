-- The ways of a form lead to all of its parts, and each has a place among those of the description.
use Rattle.std.proofs.Common.{◌≡◌, ◌<◌, ◌+◌, ◌++◌, ◌&&◌, ◌||◌, ℕ, zero, suc, Bool, true, false, not, List, [], ◌∷◌, Option, None, Some, cond, fold, length, get_or, nat_eq, nat_lt, refl, sym, ap, ap₂, ◌∙◌, subst, arith, inl, inr, ◌⊎◌}
use Rattle.std.specs.Prelude.{flat_map, is_some, option_map, position}
use Rattle.std.specs.Option.{option_and_then}
use Rattle.std.specs.List.{list_any, position_or_len}
use Rattle.std.proofs.lemmas.Bool.{and_parts, and_from, both_ways, eq-eqb, eqb-true, lt-ltb, le-ltb, ltb-true, ltb-false}
use Rattle.std.proofs.lemmas.List.Quantifiers.{position-Some}
use Rattle.std.proofs.lemmas.Option.{same_Some}
use Rattle.lisa_tree.specs.Descriptions.{DescriptionTree}
use Rattle.instruction_trees.specs.Trees.{Form, In, here, there}
use Rattle.instruction_trees.proofs.Listing.{in_left, in_right, in_append, in_flat}
use Rattle.instruction_forms.specs.Trees.{FormTree, FormTrees, Node, End, Then}
use Rattle.scene_paths.specs.lisa_forms.Choosing.{tree_at, child_at, operation_of}
use Rattle.lowered_words.specs.Ways.{Way, Whole, Child, same_way, of_operation, child_of, part_by, ways_from, ways_among, ways_in, plain_forms, form_ways, with_way, all_ways, way_place}
use Rattle.lowered_words.proofs.Agreeing.{of_is, step}

-- ---- tests of ways

pub same_itself : (w : Way) → same_way w w ≡ true
same_itself (Whole o) = eq-eqb o o refl
same_itself (Child w i o) = and_from (same_way w w) (nat_eq i i && nat_eq o o) (same_itself w) (and_from (nat_eq i i) (nat_eq o o) (eq-eqb i i refl) (eq-eqb o o refl))

pub same_is : (v w : Way) → same_way v w ≡ true → v ≡ w
same_is (Whole o) (Whole p) e = ap (λ (n : ℕ). Whole n) (eqb-true o p e)
same_is (Whole o) (Child w j p) e = absurd (cc e)
same_is (Child v i o) (Whole p) e = absurd (cc e)
same_is (Child v i o) (Child w j p) e =
    let a = and_parts (same_way v w) (nat_eq i j && nat_eq o p) e in
    let b = and_parts (nat_eq i j) (nat_eq o p) a.1 in
    ap (λ (u : Way). Child u i o) (same_is v w a.0)
    ∙ ap₂ (λ (m n : ℕ). Child w m n) (eqb-true i j b.0) (eqb-true o p b.1)

pub any_in : (w : Way) (ws : List Way) → list_any (same_way w) ws ≡ true → In w ws
any_in w [] e = absurd (cc e)
any_in w (v ∷ ws) e = by (same_way w v) refl e (any_in w ws)
  where
    by : (b : Bool) → same_way w v ≡ b → (b || list_any (same_way w) ws) ≡ true → (list_any (same_way w) ws ≡ true → In w ws) → In w (v ∷ ws)
    by true is h rest = subst (λ (u : Way). In w (u ∷ ws)) (same_is w v is) here
    by false is h rest = there (rest h)

pub in_any : (w : Way) (ws : List Way) → In w ws → list_any (same_way w) ws ≡ true
in_any w _ (here {xs = ws}) = ap (λ (b : Bool). b || list_any (same_way w) ws) (same_itself w)
in_any w _ (there {y = v} {xs = ws} i) = by (same_way w v) (in_any w ws i)
  where
    by : (b : Bool) → list_any (same_way w) ws ≡ true → (b || list_any (same_way w) ws) ≡ true
    by true h = refl
    by false h = h

-- ---- the parts of a form

module _ (f : FormTree) where
  -- the children of a part are reached
  among_there : (u v : Way) (i n : ℕ) (all : FormTrees) (x : FormTree) → tree_at all n ≡ Some x → In u (ways_from (Child v (i + n) (operation_of x)) x) → In u (ways_among v i all)
  among_there u v i n End x e j = absurd (cc e)
  among_there u v i zero (Then g rest) x e j =
      let same : g ≡ x = same_Some g x e in
      let level : i + 0 ≡ i = omega arith in
      let k : In u (ways_from (Child v i (operation_of x)) x) = subst (λ (m : ℕ). In u (ways_from (Child v m (operation_of x)) x)) level j in
      in_left (ways_among v (i + 1) rest) (subst (λ (z : FormTree). In u (ways_from (Child v i (operation_of z)) z)) (sym same) k)
  among_there u v i (suc n) (Then g rest) x e j =
      let level : i + suc n ≡ i + 1 + n = omega arith in
      in_right (ways_from (Child v i (operation_of g)) g)
      (among_there u v (i + 1) n rest x e (subst (λ (m : ℕ). In u (ways_from (Child v m (operation_of x)) x)) level j))

  child_there : (u v : Way) (i o : ℕ) (part x : FormTree) → child_at part i ≡ Some x → operation_of x ≡ o → In u (ways_from (Child v i o) x) → In u (ways_from v part)
  child_there u v i o (Node p children fields) x e same j =
      let level : i ≡ 0 + i = omega arith in
      let k : In u (ways_from (Child v i (operation_of x)) x) = subst (λ (m : ℕ). In u (ways_from (Child v i m) x)) (sym same) j in
      there (among_there u v 0 i children x e (subst (λ (m : ℕ). In u (ways_from (Child v m (operation_of x)) x)) level k))

  all_there : (w : Way) (g : FormTree) → part_by f w ≡ Some g → (u : Way) → In u (ways_from w g) → In u (ways_in f)
  all_there (Whole o) g e u j =
      let same = of_is o f g e in
      let k : In u (ways_from (Whole (operation_of f)) g) = subst (λ (m : ℕ). In u (ways_from (Whole m) g)) (sym same.0) j in
      subst (λ (z : FormTree). In u (ways_from (Whole (operation_of f)) z)) (sym same.1) k
  all_there (Child above i o) g e u j =
      let s = step f above i o g e in
      all_there above s.part s.is_above u (child_there u above i o s.part g s.is_child s.is_of j)

  first_there : (w : Way) (g : FormTree) → In w (ways_from w g)
  first_there w (Node o children fields) = here

  pub part_there : (w : Way) (g : FormTree) → part_by f w ≡ Some g → In w (ways_in f)
  part_there w g e = all_there w g e w (first_there w g)

  -- and back
  child_reached : (v : Way) (i : ℕ) (part x : FormTree) → part_by f v ≡ Some part → child_at part i ≡ Some x → part_by f (Child v i (operation_of x)) ≡ Some x
  child_reached v i part x e is =
      ap (λ (p : Option FormTree). option_and_then (of_operation (operation_of x)) (option_and_then (child_of i) p)) e
      ∙ ap (λ (c : Option FormTree). option_and_then (of_operation (operation_of x)) c) is
      ∙ ap (λ (b : Bool). cond b (Some x) None) (eq-eqb (operation_of x) (operation_of x) refl)

  mutual
    reached : (v : Way) (part : FormTree) → part_by f v ≡ Some part → (w : Way) → In w (ways_from v part) → is_some (part_by f w) ≡ true
    reached v (Node o children fields) e _ here = ap is_some e
    reached v (Node o children fields) e w (there j) =
        reached_among v 0 children
        (λ n x is. subst (λ (m : ℕ). part_by f (Child v m (operation_of x)) ≡ Some x) (let level : n ≡ 0 + n = omega arith in level) (child_reached v n (Node o children fields) x e is))
        w j

    reached_among : (v : Way) (i : ℕ) (all : FormTrees) → ((n : ℕ) (x : FormTree) → tree_at all n ≡ Some x → part_by f (Child v (i + n) (operation_of x)) ≡ Some x)
        → (w : Way) → In w (ways_among v i all) → is_some (part_by f w) ≡ true
    reached_among v i End each w j = elim j [ ]
    reached_among v i (Then g rest) each w j = elim (in_append (ways_from (Child v i (operation_of g)) g) (ways_among v (i + 1) rest) j) [
      | inl l ↦ reached (Child v i (operation_of g)) g (subst (λ (m : ℕ). part_by f (Child v m (operation_of g)) ≡ Some g) (let level : i + 0 ≡ i = omega arith in level) (each 0 g refl)) w l
      | inr r ↦ reached_among v (i + 1) rest
          (λ n x is. subst (λ (m : ℕ). part_by f (Child v m (operation_of x)) ≡ Some x) (let level : i + suc n ≡ i + 1 + n = omega arith in level) (each (suc n) x is))
          w r
    ]

  itself : part_by f (Whole (operation_of f)) ≡ Some f
  itself = ap (λ (b : Bool). cond b (Some f) None) (eq-eqb (operation_of f) (operation_of f) refl)

  -- a form has a part by exactly its ways
  pub ways_reach : (w : Way) → list_any (same_way w) (ways_in f) ≡ is_some (part_by f w)
  ways_reach w = by (part_by f w) refl
    where
      not_any : (b : Bool) → list_any (same_way w) (ways_in f) ≡ b → is_some (part_by f w) ≡ false → b ≡ false
      not_any true is none = absurd (both_ways (is_some (part_by f w)) none (reached (Whole (operation_of f)) f itself w (any_in w (ways_in f) is)))
      not_any false is none = refl

      by : (p : Option FormTree) → part_by f w ≡ p → list_any (same_way w) (ways_in f) ≡ is_some (part_by f w)
      by None e = let none : is_some (part_by f w) ≡ false = ap is_some e in not_any (list_any (same_way w) (ways_in f)) refl none ∙ sym none
      by (Some g) e = in_any w (ways_in f) (part_there w g e) ∙ sym (ap is_some e)

-- ---- places

pub position_more : {X : Type 0} (p : X → Bool) (x : X) (xs : List X) → position p (x ∷ xs) ≡ cond (p x) (Some 0) (option_map suc (position p xs))
position_more p x xs = by (p x)
  where
    later : (m n : ℕ) (b : Bool) → nat_lt m n ≡ b → cond (nat_lt (1 + m) (suc n)) (Some (1 + m)) None ≡ option_map suc (cond b (Some m) None)
    later m n true e =
        let h = ltb-true m n e in
        ap (λ (b : Bool). cond b (Some (1 + m)) None) (lt-ltb (1 + m) (suc n) (omega (arith, h)))
        ∙ ap (λ (k : ℕ). Some k) (let level : 1 + m ≡ suc m = omega arith in level)
    later m n false e =
        let h = ltb-false m n e in
        ap (λ (b : Bool). cond b (Some (1 + m)) None) (le-ltb (1 + m) (suc n) (omega (arith, h)))

    by : (b : Bool) → cond (nat_lt (cond (not b) (1 + position_or_len p xs) 0) (suc (length xs))) (Some (cond (not b) (1 + position_or_len p xs) 0)) None ≡ cond b (Some 0) (option_map suc (position p xs))
    by true = ap (λ (b : Bool). cond b (Some 0) None) (lt-ltb 0 (suc (length xs)) (omega arith))
    by false = later (position_or_len p xs) (length xs) (nat_lt (position_or_len p xs) (length xs)) refl

pub in_position : (w : Way) (ws : List Way) → In w ws → (j : ℕ) × (position (same_way w) ws ≡ Some j)
in_position w _ (here {xs = ws}) = (0, position_more (same_way w) w ws ∙ ap (λ (b : Bool). cond b (Some 0) (option_map suc (position (same_way w) ws))) (same_itself w))
in_position w _ (there {y = v} {xs = ws} i) = by (same_way w v) refl (in_position w ws i)
  where
    by : (b : Bool) → same_way w v ≡ b → (j : ℕ) × (position (same_way w) ws ≡ Some j) → (j : ℕ) × (position (same_way w) (v ∷ ws) ≡ Some j)
    by true is p = (0, position_more (same_way w) v ws ∙ ap (λ (b : Bool). cond b (Some 0) (option_map suc (position (same_way w) ws))) is)
    by false is p =
        (suc p.0, position_more (same_way w) v ws ∙ ap (λ (b : Bool). cond b (Some 0) (option_map suc (position (same_way w) ws))) is ∙ ap (λ (o : Option ℕ). option_map suc o) p.1)

module _ (d : DescriptionTree) where
  kept : (w v : Way) (all : List Way) → In w all → In w (with_way all v)
  kept w v all i = by (list_any (same_way v) all)
    where
      by : (b : Bool) → In w (cond b all (all ++ v ∷ []))
      by true = i
      by false = in_left (v ∷ []) i

  new : (v : Way) (all : List Way) → In v (with_way all v)
  new v all = by (list_any (same_way v) all) refl
    where
      by : (b : Bool) → list_any (same_way v) all ≡ b → In v (cond b all (all ++ v ∷ []))
      by true e = any_in v all e
      by false e = in_right all here

  gathered : (w : Way) (ws all : List Way) → In w all ⊎ In w ws → In w (fold with_way all ws)
  gathered w [] all (inl i) = i
  gathered w [] all (inr i) = elim i [ ]
  gathered w (v ∷ ws) all (inl i) = gathered w ws (with_way all v) (inl (kept w v all i))
  gathered w (v ∷ ws) all (inr here) = gathered w ws (with_way all w) (inl (new w all))
  gathered w (v ∷ ws) all (inr (there i)) = gathered w ws (with_way all v) (inr i)

  -- each way of a plain form has a place
  pub has_place : (f : Form) (w : Way) → In f (plain_forms d) → In w (form_ways d f) → (j : ℕ) × (way_place d w ≡ Some j)
  has_place f w i j = in_position w (all_ways d) (gathered w (flat_map (form_ways d) (plain_forms d)) [] (inr (in_flat (form_ways d) i j)))

  pub place_within : (w : Way) (j : ℕ) → way_place d w ≡ Some j → j < length (all_ways d)
  place_within w j e = (position-Some (same_way w) (all_ways d) j w e).0

  -- two ways have two places
  pub one_way : (v w : Way) (j : ℕ) → way_place d v ≡ Some j → way_place d w ≡ Some j → v ≡ w
  one_way v w j e h =
      let p = position-Some (same_way v) (all_ways d) j v e in
      let q = position-Some (same_way w) (all_ways d) j v h in
      same_is v (get_or (all_ways d) j v) p.1 ∙ sym (same_is w (get_or (all_ways d) j v) q.1)
