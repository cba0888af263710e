-- What is gathered from the sources of a reference is what it may choose.
use Rattle.std.proofs.Common.{◌≡◌, ◌<◌, ◌≤◌, ◌+◌, ◌-◌, ◌||◌, ℕ, List, [], ◌∷◌, ◌++◌, Option, None, Some, Bool, true, false, cond, nat_eq, nat_lt, length, refl, ap, sym, ◌∙◌, arith, subst, inl, inr}
use Rattle.std.specs.List.{list_all}
use Rattle.std.specs.Global.{Vec}
use Rattle.std.proofs.lemmas.Bool.{or_cases, eqb-true, eq-eqb, ltb-false, le-ltb}
use Rattle.std.proofs.lemmas.List.Folds.{list_any-append}
use Rattle.lisa_tree.specs.Descriptions.{DescriptionTree}
use Rattle.graph_paths.specs.Paths.{targets, is_in, Leads, Reaches, edge, more}
use Rattle.graph_paths.proofs.Long.{within}
use Rattle.graph_paths.proofs.Listed.{all_of}
use Rattle.lisa_tree.specs.declared.declared.What.{What}
use Rattle.lisa_tree.specs.declared.declared.What.TheVariants as whats
use Rattle.lisa_tree.specs.Declarations.{entries, what_at, plain_at}
use Rattle.lisa_tree.specs.Paths.{Choosing, Declaring, leads, entry_node}
use Rattle.description_graph.specs.Graph.{IsOutline, Hands, directly, further, first_entry}
use Rattle.text_counts.specs.References.{MayMean, chosen, referenced, chosen_by}
use Rattle.text_counts.specs.Gathering.{IsGathered, is_ready, ready_at, is_node_ready, gathered_at, gathered, Source, AreSources, late_row}
use Rattle.text_counts.proofs.Leading.{picks, refers, choice_by, no_choice, no_reference, refers_by, edge_there}

or_left : (x y : Bool) → x ≡ true → (x || y) ≡ true
or_left x y e = grind (arith, e)

or_right : (x y : Bool) → y ≡ true → (x || y) ≡ true
or_right true y e = refl
or_right false y e = e

module _ (d : DescriptionTree) where
  -- ---- one declared name

  -- what is none has nothing to choose, nor has a label
  idle : (i a : ℕ) → what_at d i ≡ None → MayMean d i a → ⊥
  idle i a is (chosen c l p) = no_choice d i c is l
  idle i a is (referenced j l m) = no_reference d i j is l

  label : (i a : ℕ) → what_at d i ≡ Some whats.Label → MayMean d i a → ⊥
  label i a is (chosen c l p) = absurd (cc (sym (choice_by d i c whats.Label is) ∙ l))
  label i a is (referenced j l m) = absurd (cc (refers_by d i j whats.Label is l))

  own : (i a c : ℕ) (w : What) → what_at d i ≡ Some w → refers w ≡ false → ((k : ℕ) → picks w k ≡ nat_eq c k) → MayMean d i a → is_in a (plain_at d c) ≡ true
  own i a c w is off same (chosen k l p) =
      let e : c ≡ k = eqb-true c k (sym (same k) ∙ sym (choice_by d i k w is) ∙ l) in
      subst (λ (x : ℕ). is_in a (plain_at d x) ≡ true) (sym e) p
  own i a c w is off same (referenced j l m) = absurd (cc (refers_by d i j w is l, off))

  picked : (i a c : ℕ) (w : What) → what_at d i ≡ Some w → ((k : ℕ) → picks w k ≡ nat_eq c k) → is_in a (plain_at d c) ≡ true → MayMean d i a
  picked i a c w is same p = chosen c (choice_by d i c w is ∙ same c ∙ eq-eqb c c refl) p

  module _ (lists : List (Vec ℕ)) (done : List Bool) (g : IsGathered d lists done) where
    chooses : (j a : ℕ) → is_in a (chosen_by d (targets lists) j (what_at d j)) ≡ true → MayMean d j a
    chooses j a h = by (what_at d j) refl h
      where
        by : (r : Option What) → what_at d j ≡ r → is_in a (chosen_by d (targets lists) j r) ≡ true → MayMean d j a
        by None is e = absurd (cc e)
        by (Some (whats.Group c)) is e = picked j a c (whats.Group c) is (λ k. refl) e
        by (Some (whats.Instance c)) is e = picked j a c (whats.Instance c) is (λ k. refl) e
        by (Some whats.Label) is e = absurd (cc e)
        by (Some whats.Reference) is e = g.sound j a is e

    chosen_in : (j a : ℕ) → ready_at d done j ≡ true → MayMean d j a → is_in a (chosen_by d (targets lists) j (what_at d j)) ≡ true
    chosen_in j a h m = by (what_at d j) refl h
      where
        by : (r : Option What) → what_at d j ≡ r → is_ready done j r ≡ true → is_in a (chosen_by d (targets lists) j r) ≡ true
        by None is e = absurd (idle j a is m)
        by (Some (whats.Group c)) is e = own j a c (whats.Group c) is refl (λ k. refl) m
        by (Some (whats.Instance c)) is e = own j a c (whats.Instance c) is refl (λ k. refl) m
        by (Some whats.Label) is e = absurd (label j a is m)
        by (Some whats.Reference) is e = g.whole j a is e m

  -- ---- some nodes

  module _ (means : ℕ → List ℕ) (a : ℕ) where
    record Among (nodes : List ℕ) : Type 0 where
      pub name : ℕ
      pub stands : is_in (entry_node d name) nodes ≡ true
      pub has : is_in a (chosen_by d means name (what_at d name)) ≡ true

    append_in : (xs ys : List ℕ) → is_in a (xs ++ ys) ≡ (is_in a xs || is_in a ys)
    append_in xs ys = list_any-append (nat_eq a) xs ys

    among : (nodes : List ℕ) → is_in a (gathered d means nodes) ≡ true → Among nodes
    among [] e = absurd (cc e)
    among (node ∷ rest) e = elim (or_cases (is_in a (gathered_at d means node)) (is_in a (gathered d means rest)) (sym (append_in (gathered_at d means node) (gathered d means rest)) ∙ e)) [
      | inl here ↦ at (nat_lt node (first_entry d)) refl here
      | inr there ↦ (let m = among rest there in record { name = m.name; stands = or_right (nat_eq (entry_node d m.name) node) (is_in (entry_node d m.name) rest) m.stands; has = m.has })
    ]
      where
        at : (b : Bool) → nat_lt node (first_entry d) ≡ b → is_in a (cond b [] (chosen_by d means (node - first_entry d) (what_at d (node - first_entry d)))) ≡ true → Among (node ∷ rest)
        at true is h = absurd (cc h)
        at false is h =
            let l : first_entry d ≤ node = ltb-false node (first_entry d) is in
            let n : entry_node d (node - first_entry d) ≡ node = omega (arith, l) in
            record {
              name = node - first_entry d;
              stands = or_left (nat_eq (entry_node d (node - first_entry d)) node) (is_in (entry_node d (node - first_entry d)) rest) (eq-eqb _ _ n);
              has = h;
            }

    gathered_has : (nodes : List ℕ) (j : ℕ) → is_in (entry_node d j) nodes ≡ true → is_in a (chosen_by d means j (what_at d j)) ≡ true → is_in a (gathered d means nodes) ≡ true
    gathered_has [] j e h = absurd (cc e)
    gathered_has (node ∷ rest) j e h = append_in (gathered_at d means node) (gathered d means rest) ∙ elim (or_cases (nat_eq (entry_node d j) node) (is_in (entry_node d j) rest) e) [
      | inl here ↦ (let n : entry_node d j ≡ node = eqb-true (entry_node d j) node here in or_left (is_in a (gathered_at d means node)) (is_in a (gathered d means rest)) (subst (λ (x : ℕ). is_in a (gathered_at d means x) ≡ true) n at))
      | inr there ↦ or_right (is_in a (gathered_at d means node)) (is_in a (gathered d means rest)) (gathered_has rest j there h)
    ]
      where
        at : is_in a (gathered_at d means (entry_node d j)) ≡ true
        at =
            let k : entry_node d j - first_entry d ≡ j = omega arith in
            ap (λ (b : Bool). is_in a (cond b [] (chosen_by d means (entry_node d j - first_entry d) (what_at d (entry_node d j - first_entry d))))) (le-ltb (entry_node d j) (first_entry d) (omega arith))
            ∙ ap (λ (x : ℕ). is_in a (chosen_by d means x (what_at d x))) k
            ∙ h

  pub is_gathered : (lists : List (Vec ℕ)) (done : List Bool) → IsGathered d lists done → (i : ℕ) (nodes : List ℕ) → AreSources d done i nodes → (a : ℕ)
      → (is_in a (gathered d (targets lists) nodes) ≡ true → MayMean d i a) × (MayMean d i a → is_in a (gathered d (targets lists) nodes) ≡ true)
  is_gathered lists done g i nodes s a = (
    λ e. (let m = among (targets lists) a nodes e in s.sound m.name a m.stands (chooses lists done g m.name a m.has)),
    λ m. (let x = s.whole a m in gathered_has (targets lists) a nodes x.name x.stands (chosen_in lists done g x.name a x.ready x.chooses)),
  )

  -- ---- the sources of a reference

  pub no_own_choice : (i c : ℕ) → what_at d i ≡ Some whats.Reference → leads d (Declaring i) (Choosing c) ≡ true → ⊥
  no_own_choice i c is l = absurd (cc (sym (choice_by d i c whats.Reference is) ∙ l))

  ready_more : (done : List Bool) (j : ℕ) → ready_at d [] j ≡ true → ready_at d done j ≡ true
  ready_more done j h = by (what_at d j) refl h
    where
      by : (r : Option What) → what_at d j ≡ r → is_ready [] j r ≡ true → is_ready done j (what_at d j) ≡ true
      by None is e = ap (is_ready done j) is
      by (Some (whats.Group c)) is e = ap (is_ready done j) is
      by (Some (whats.Instance c)) is e = ap (is_ready done j) is
      by (Some whats.Label) is e = ap (is_ready done j) is
      by (Some whats.Reference) is e = absurd (cc e)

  pub sources_more : (done : List Bool) (i : ℕ) (nodes : List ℕ) → AreSources d [] i nodes → AreSources d done i nodes
  sources_more done i nodes s = record {
    sound = s.sound;
    whole = λ a m. (let x = s.whole a m in record { name = x.name; stands = x.stands; ready = ready_more done x.name x.ready; chooses = x.chooses });
  }

  module _ (next : List (Vec ℕ)) (graph : IsOutline d next) where
    node_ready : (done : List Bool) (j : ℕ) → is_node_ready d done (entry_node d j) ≡ true → ready_at d done j ≡ true
    node_ready done j e =
        let k : entry_node d j - first_entry d ≡ j = omega arith in
        let off : nat_lt (entry_node d j) (first_entry d) ≡ false = le-ltb (entry_node d j) (first_entry d) (omega arith) in
        sym (ap (λ (b : Bool). b || ready_at d done (entry_node d j - first_entry d)) off ∙ ap (ready_at d done) k) ∙ e

    -- the first edge of a path
    record First (i a : ℕ) : Type 0 where
      pub name : ℕ
      pub edge : Leads next (entry_node d i) (entry_node d name)
      pub means : MayMean d name a

    first_of : (a : ℕ) {i j : ℕ} → Hands d next i j → MayMean d j a → First i a
    first_of a {i = i} {j = j} (directly e) m = record { name = j; edge = e; means = m }
    first_of a {i = i} {j = j} (further {k = k} r e) m = first_of a r (referenced j (edge_there d next graph k j e) m)

    pub row_sources : (i : ℕ) (done : List Bool) → what_at d i ≡ Some whats.Reference → list_all (is_node_ready d done) (targets next (entry_node d i)) ≡ true
        → AreSources d done i (targets next (entry_node d i))
    row_sources i done is all = record {
      sound = λ j a e m. referenced j (edge_there d next graph i j e) m;
      whole = whole;
    }
      where
        whole : (a : ℕ) → MayMean d i a → Source d done (targets next (entry_node d i)) a
        whole a (chosen c l p) = absurd (no_own_choice i c is l)
        whole a (referenced j l m) =
            let f = first_of a (graph.handed i j l) m in
            record { name = f.name; stands = f.edge; ready = node_ready done f.name (all_of (is_node_ready d done) (entry_node d f.name) (targets next (entry_node d i)) all f.edge); chooses = f.means }

    module _ (edges : List (Vec ℕ)) (rows : (a : ℕ) → targets edges a ≡ late_row (first_entry d) next a) where
      late : (i j : ℕ) → Leads next (entry_node d i) (entry_node d j) → Leads edges (entry_node d i) (entry_node d j)
      late i j e =
          ap (is_in (entry_node d j)) (rows (entry_node d i)
          ∙ ap (λ (b : Bool). cond b [] (targets next (entry_node d i))) (le-ltb (entry_node d i) (first_entry d) (omega arith)))
          ∙ e

      -- an edge goes from a declared name
      record Late (x y : ℕ) : Type 0 where
        pub name : ℕ
        pub stands : x ≡ entry_node d name
        pub there : name < length (entries d)
        pub edge : Leads next x y

      is_late : (x y : ℕ) → Leads edges x y → Late x y
      is_late x y e = by (nat_lt x (first_entry d)) refl
        where
          by : (b : Bool) → nat_lt x (first_entry d) ≡ b → Late x y
          by true is = absurd (cc (sym (ap (is_in y) (rows x ∙ ap (λ (b : Bool). cond b [] (targets next x)) is)) ∙ e))
          by false is =
              let l : first_entry d ≤ x = ltb-false x (first_entry d) is in
              let f : Leads next x y = sym (ap (is_in y) (rows x ∙ ap (λ (b : Bool). cond b [] (targets next x)) is)) ∙ e in
              let w = within next x y f in
              let n = graph.count in
              record { name = x - first_entry d; stands = omega (arith, l); there = omega (arith, l, w, n); edge = f }

      one_back : (x y j a : ℕ) → Leads edges x y → y ≡ entry_node d j → MayMean d j a → (k : ℕ) → x ≡ entry_node d k → MayMean d k a
      one_back x y j a e is m k at =
          let l = is_late x y e in
          let s : k ≡ l.name = (let p = l.stands in omega (arith, at, p)) in
          let f : Leads next (entry_node d l.name) (entry_node d j) = subst (λ (z : ℕ). Leads next z (entry_node d j)) l.stands (subst (Leads next x) is l.edge) in
          subst (λ (z : ℕ). MayMean d z a) (sym s) (referenced j (edge_there d next graph l.name j f) m)

      back : (x y : ℕ) → Reaches edges x y → (i j a : ℕ) → x ≡ entry_node d i → y ≡ entry_node d j → MayMean d j a → MayMean d i a
      back x y (edge e) i j a at is m = one_back x y j a e is m i at
      back x y (more {b = z} r e) i j a at is m =
          let l = is_late z y e in
          back x z r i l.name a at l.stands (one_back z y j a e is m l.name l.stands)

      joined : (x y z : ℕ) → Reaches edges x y → Reaches edges y z → Reaches edges x z
      joined x y z r (edge f) = more r f
      joined x y z r (more s f) = more (joined x y _ r s) f

      late_path : {i j : ℕ} → Hands d next i j → Reaches edges (entry_node d i) (entry_node d j)
      late_path {i = i} {j = j} (directly e) = edge (late i j e)
      late_path {i = i} {j = j} (further {k = k} r e) = more (late_path r) (late k j e)

      -- what is reached from a reference and is no reference
      record Found (i a : ℕ) : Type 0 where
        pub name : ℕ
        pub path : Reaches edges (entry_node d i) (entry_node d name)
        pub ready : ready_at d [] name ≡ true
        pub chooses : MayMean d name a

      found : (i a : ℕ) → what_at d i ≡ Some whats.Reference → MayMean d i a → Found i a
      found i a is (chosen c l p) = absurd (no_own_choice i c is l)
      found i a is (referenced j l m) = by (what_at d j) refl (λ at. found j a at m)
        where
          step : Reaches edges (entry_node d i) (entry_node d j)
          step = late_path (graph.handed i j l)

          here : ready_at d [] j ≡ true → Found i a
          here ready = record { name = j; path = step; ready = ready; chooses = m }

          by : (r : Option What) → what_at d j ≡ r → (what_at d j ≡ Some whats.Reference → Found j a) → Found i a
          by None at next = here (ap (is_ready [] j) at)
          by (Some (whats.Group c)) at next = here (ap (is_ready [] j) at)
          by (Some (whats.Instance c)) at next = here (ap (is_ready [] j) at)
          by (Some whats.Label) at next = here (ap (is_ready [] j) at)
          by (Some whats.Reference) at next = (let f = next at in record { name = f.name; path = joined _ _ _ step f.path; ready = f.ready; chooses = f.chooses })

      pub reached_sources : (i : ℕ) (nodes : List ℕ) → what_at d i ≡ Some whats.Reference
          → ((b : ℕ) → is_in b nodes ≡ true → Reaches edges (entry_node d i) b) → ((b : ℕ) → Reaches edges (entry_node d i) b → is_in b nodes ≡ true)
          → AreSources d [] i nodes
      reached_sources i nodes is to from = record {
        sound = λ j a e m. back (entry_node d i) (entry_node d j) (to (entry_node d j) e) i j a refl refl m;
        whole = λ a m. (let f = found i a is m in record { name = f.name; stands = from (entry_node d f.name) f.path; ready = f.ready; chooses = f.chooses });
      }

      pub late_nodes : (a b : ℕ) → Leads edges a b → b < length next
      late_nodes a b e = graph.nodes a b (is_late a b e).edge

  -- the same where the first declared name stands at a number that is only known to be its own
  module _ (next : List (Vec ℕ)) (graph : IsOutline d next) (base : ℕ) (first : base ≡ first_entry d) where
    pub own_row : (i : ℕ) → targets next (base + i) ≡ targets next (entry_node d i)
    own_row i = ap (λ (x : ℕ). targets next (x + i)) first

    pub searched_sources : (edges : List (Vec ℕ)) → ((a : ℕ) → targets edges a ≡ late_row base next a) → (i : ℕ) (nodes : List ℕ) → what_at d i ≡ Some whats.Reference
        → ((b : ℕ) → is_in b nodes ≡ true → Reaches edges (base + i) b) → ((b : ℕ) → Reaches edges (base + i) b → is_in b nodes ≡ true)
        → AreSources d [] i nodes
    searched_sources edges rows i nodes is to from = reached_sources next graph edges (λ a. rows a ∙ ap (λ (x : ℕ). late_row x next a) first) i nodes is
        (λ b e. subst (λ (x : ℕ). Reaches edges (x + i) b) first (to b e))
        (λ b r. from b (subst (λ (x : ℕ). Reaches edges (x + i) b) (sym first) r))

    pub edges_below : (edges : List (Vec ℕ)) → ((a : ℕ) → targets edges a ≡ late_row base next a) → (a b : ℕ) → Leads edges a b → b < length next
    edges_below edges rows a b e = late_nodes next graph edges (λ a. rows a ∙ ap (λ (x : ℕ). late_row x next a) first) a b e
