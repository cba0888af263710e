-- Edges from references to some of what they mean, by which the rest is reached.
use Rattle.std.proofs.Common.{◌≡◌, ◌<◌, ◌≤◌, ◌+◌, ◌-◌, ◌&&◌, ◌||◌, ℕ, List, [], ◌∷◌, Option, None, Some, Bool, true, false, not, nat_eq, nat_lt, length, refl, ap, ap₂, sym, ◌∙◌, arith, inl, inr, subst}
use Rattle.std.specs.Prelude.{slice_get}
use Rattle.std.specs.List.{list_any}
use Rattle.std.specs.Global.{Vec}
use Rattle.std.proofs.lemmas.Option.{slice_get_within}
use Rattle.std.proofs.lemmas.Bool.{or_cases, eq-eqb, eqb-true, le-ltb, ltb-true, ltb-false, and_parts}
use Rattle.lisa_tree.specs.Descriptions.{DescriptionTree}
use Rattle.lisa_tree.specs.declared.declared.What.{What}
use Rattle.lisa_tree.specs.declared.declared.What.TheVariants as whats
use Rattle.lisa_tree.specs.Declarations.{Entry, entries, declared_at, above}
use Rattle.lisa_tree.specs.Paths.{Declaring, refers, node_at, node_count, entry_node, leads}
use Rattle.graph_paths.specs.Paths.{targets, is_in, Leads, Reaches, edge, more, AreNodes}
use Rattle.graph_paths.proofs.Long.{within}
use Rattle.meant_declarations.specs.Meanings.{direct_meanings, AreSources}
use Rattle.meant_declarations.proofs.Direct.{directly, means_directly}
use Rattle.description_graph.specs.Graph.{IsGraph, IsOutline, Hands, directly as handed_directly, further, is_at, first_entry, ranged, shifted, plain_edges, to_meanings, to_meanings_of, to_row, to_rows}
use Rattle.description_graph.proofs.Hits.{at_is, is_at-Some}
use Rattle.description_graph.proofs.Numbered.{ranged_at}
use Rattle.description_graph.proofs.Meant.{next_of, meant_below}
use Rattle.description_graph.proofs.Nodes.{all_edges, place_of, at_entry, edges_are, edges_within}

or_left : (x y : Bool) → x ≡ true → (x || y) ≡ true
or_left x y e = ap (λ (b : Bool). b || y) e

or_right : (x y : Bool) → y ≡ true → (x || y) ≡ true
or_right true y e = refl
or_right false y e = e

-- one of a list
record One (p : ℕ → Bool) (all : List ℕ) : Type 0 where
  pub number : ℕ
  pub listed : is_in number all ≡ true
  pub holds : p number ≡ true

one_of : (p : ℕ → Bool) (all : List ℕ) → list_any p all ≡ true → One p all
one_of p [] h = absurd (cc h)
one_of p (k ∷ all) h = elim (or_cases (p k) (list_any p all) h) [
  | inl this ↦ record { number = k; listed = or_left (nat_eq k k) (is_in k all) (eq-eqb k k refl); holds = this }
  | inr later ↦ (let o = one_of p all later in record { number = o.number; listed = or_right (nat_eq o.number k) (is_in o.number all) o.listed; holds = o.holds })
]

of_one : (p : ℕ → Bool) (k : ℕ) (all : List ℕ) → is_in k all ≡ true → p k ≡ true → list_any p all ≡ true
of_one p k [] h e = absurd (cc h)
of_one p k (x ∷ all) h e = elim (or_cases (nat_eq k x) (is_in k all) h) [
  | inl same ↦ or_left (p x) (list_any p all) (sym (ap p (eqb-true k x same)) ∙ e)
  | inr later ↦ or_right (p x) (list_any p all) (of_one p k all later e)
]

-- ---- references lead to what they directly mean

reference_is : (w : What) → refers w ≡ true → w ≡ whats.Reference
reference_is whats.Reference h = refl
reference_is (whats.Group c) h = absurd (cc h)
reference_is (whats.Instance c) h = absurd (cc h)
reference_is whats.Label h = absurd (cc h)

module _ (d : DescriptionTree) where
  pub direct_leads : (i j : ℕ) → is_in j (direct_meanings d i) ≡ true → leads d (Declaring i) (Declaring j) ≡ true
  direct_leads i j h =
      let m = directly d i j h in
      let o = m.by in
      let any : list_any (λ p. is_at (declared_at d p m.e.name) j) (above d m.e.operation) ≡ true =
      of_one (λ p. is_at (declared_at d p m.e.name) j) o.operation (above d m.e.operation) o.listed (is_at-Some (declared_at d o.operation m.e.name) j o.declared) in
      ap (λ (r : Option Entry). next_of d r j) m.is ∙ ap (λ (w : What). refers w && list_any (λ p. is_at (declared_at d p m.e.name) j) (above d m.e.operation)) m.what ∙ any

  pub leads_direct : (i j : ℕ) → leads d (Declaring i) (Declaring j) ≡ true → is_in j (direct_meanings d i) ≡ true
  leads_direct i j h = by (slice_get (entries d) i) refl
    where
      by : (r : Option Entry) → slice_get (entries d) i ≡ r → is_in j (direct_meanings d i) ≡ true
      by None at = absurd (cc (sym (ap (λ (r : Option Entry). next_of d r j) at) ∙ h))
      by (Some x) at =
          let parts : next_of d (Some x) j ≡ true = sym (ap (λ (r : Option Entry). next_of d r j) at) ∙ h in
          let two = and_parts (refers x.what) (list_any (λ p. is_at (declared_at d p x.name) j) (above d x.operation)) parts in
          let o = one_of (λ p. is_at (declared_at d p x.name) j) (above d x.operation) two.1 in
          means_directly d i o.number j x at (reference_is x.what two.0) o.listed (at_is (declared_at d o.number x.name) j o.holds)

-- ---- numbers behind a base

record Ranged (base n : ℕ) (test : ℕ → Bool) (a : ℕ) : Type 0 where
  pub number : ℕ
  pub within : number < n
  pub is : a ≡ base + number
  pub passes : test number ≡ true

not_below : (a base : ℕ) → not (nat_lt a base) ≡ true → base ≤ a
not_below a base e = ltb-false a base (by (nat_lt a base) e)
  where
    by : (b : Bool) → not b ≡ true → b ≡ false
    by true e = absurd (cc e)
    by false e = refl

in_range : (base n : ℕ) (test : ℕ → Bool) (a : ℕ) → ranged base n test a ≡ true → Ranged base n test a
in_range base n test a e =
    let one = and_parts (not (nat_lt a base)) (nat_lt (a - base) n && test (a - base)) e in
    let two = and_parts (nat_lt (a - base) n) (test (a - base)) one.1 in
    let l = not_below a base one.0 in
    record { number = a - base; within = ltb-true (a - base) n two.0; is = omega (arith, l); passes = two.1 }

shifted_at : (base : ℕ) (row : List ℕ) (j : ℕ) → shifted base row (base + j) ≡ is_in j row
shifted_at base row j =
    let e : base + j - base ≡ j = omega arith in
    ap (λ (b : Bool). not b && is_in (base + j - base) row) (le-ltb (base + j) base (omega arith)) ∙ ap (λ (x : ℕ). is_in x row) e

in_shifted : (base : ℕ) (row : List ℕ) (b : ℕ) → shifted base row b ≡ true → (base ≤ b) × (is_in (b - base) row ≡ true)
in_shifted base row b e = let two = and_parts (not (nat_lt b base)) (is_in (b - base) row) e in (not_below b base two.0, two.1)

-- ---- the outline

pub beyond : {next : List (Vec ℕ)} {a b c : ℕ} → Reaches next a b → Reaches next b c → Reaches next a c
beyond r (edge e) = more r e
beyond r (more s e) = more (beyond r s) e

own_edge : (d : DescriptionTree) (next : List (Vec ℕ)) → IsGraph d next → (i j : ℕ) → leads d (Declaring i) (Declaring j) ≡ true → Leads next (entry_node d i) (entry_node d j)
own_edge d next graph i j l =
    let m = directly d i j (leads_direct d i j l) in
    let h : i < length (entries d) = slice_get_within (entries d) i m.e m.is in
    let k : j < length (entries d) = meant_below d i j l in
    graph.exact (entry_node d i) (entry_node d j) (omega (arith, h)) (omega (arith, k)) ∙ ap₂ (leads d) (at_entry d (entry_node d i) i refl) (at_entry d (entry_node d j) j refl) ∙ l

pub outline_of : (d : DescriptionTree) (next : List (Vec ℕ)) → IsGraph d next → IsOutline d next
outline_of d next graph = record {
  count = graph.count;
  edges = λ a b e. (let l = within next a b e in let k = graph.nodes a b e in let c = graph.count in sym (graph.exact a b (omega (arith, l, c)) (omega (arith, k, c))) ∙ e);
  reached = λ a b h k l. edge (graph.exact a b h k ∙ l);
  handed = λ i j l. handed_directly (own_edge d next graph i j l);
  nodes = graph.nodes;
}

module _ (d : DescriptionTree) (rows : List (Vec ℕ)) (sources : AreSources d rows) (next : List (Vec ℕ)) (count : length next ≡ node_count d)
    (are : (a b : ℕ) → is_in b (targets next a) ≡ (plain_edges d a b || to_rows d rows (length (entries d)) a b)) where
  row_edge : (i j : ℕ) → Leads rows i j → Leads next (first_entry d + i) (first_entry d + j)
  row_edge i j l =
      let h = within rows i j l in
      let c = sources.count in
      let on : to_rows d rows (length (entries d)) (first_entry d + i) (first_entry d + j) ≡ true =
      ranged_at (first_entry d) (length (entries d)) (λ k. to_row d rows k (first_entry d + j)) i (omega (arith, h, c)) ∙ shifted_at (first_entry d) (targets rows i) j ∙ l in
      are (first_entry d + i) (first_entry d + j) ∙ or_right (plain_edges d (first_entry d + i) (first_entry d + j)) (to_rows d rows (length (entries d)) (first_entry d + i) (first_entry d + j)) on

  row_path : (i j : ℕ) → Reaches rows i j → Reaches next (first_entry d + i) (first_entry d + j)
  row_path i j (edge l) = edge (row_edge i j l)
  row_path i j (more {b = k} r l) = more (row_path i k r) (row_edge k j l)

  row_hands : (i j : ℕ) → Reaches rows i j → Hands d next i j
  row_hands i j (edge l) = handed_directly (row_edge i j l)
  row_hands i j (more {b = k} r l) = further (row_hands i k r) (row_edge k j l)

  -- an edge of a row
  record Rowed (a b : ℕ) : Type 0 where
    pub from : ℕ
    pub to : ℕ
    pub from_is : a ≡ first_entry d + from
    pub to_is : b ≡ first_entry d + to
    pub direct : is_in to (direct_meanings d from) ≡ true

  rowed : (a b : ℕ) → to_rows d rows (length (entries d)) a b ≡ true → Rowed a b
  rowed a b e =
      let r = in_range (first_entry d) (length (entries d)) (λ i. to_row d rows i b) a e in
      let s = in_shifted (first_entry d) (targets rows r.number) b r.passes in
      let l = s.0 in
      record { from = r.number; to = b - first_entry d; from_is = r.is; to_is = omega (arith, l); direct = sources.direct r.number (b - first_entry d) s.1 }

  plain_all : (a b : ℕ) → plain_edges d a b ≡ true → all_edges d a b ≡ true
  plain_all a b e = or_left (plain_edges d a b) (to_meanings d (length (entries d)) a b) e

  at_node : (a b : ℕ) → Leads next a b → (plain_edges d a b || to_rows d rows (length (entries d)) a b) ≡ true
  at_node a b l = sym (are a b) ∙ l

  leads_there : (a b : ℕ) → Leads next a b → leads d (node_at d a) (node_at d b) ≡ true
  leads_there a b l = elim (or_cases (plain_edges d a b) (to_rows d rows (length (entries d)) a b) (at_node a b l)) [
    | inl plain ↦ (let all = plain_all a b plain in
        let h = within next a b l in
        let k = edges_within d a b all in
        sym (edges_are d a b (place_of d a (omega (arith, h, count))) (place_of d b k)) ∙ all)
    | inr row ↦ (let r = rowed a b row in ap₂ (leads d) (at_entry d a r.from r.from_is) (at_entry d b r.to r.to_is) ∙ direct_leads d r.from r.to r.direct)
  ]

  reached_there : (a b : ℕ) → a < node_count d → b < node_count d → leads d (node_at d a) (node_at d b) ≡ true → Reaches next a b
  reached_there a b h k l = elim (or_cases (plain_edges d a b) (to_meanings d (length (entries d)) a b) (edges_are d a b (place_of d a h) (place_of d b k) ∙ l)) [
    | inl plain ↦ edge (are a b ∙ or_left (plain_edges d a b) (to_rows d rows (length (entries d)) a b) plain)
    | inr meant ↦ (let r = in_range (first_entry d) (length (entries d)) (λ i. to_meanings_of d i b) a meant in
        let s = in_range (first_entry d) (length (entries d)) (λ j. leads d (Declaring r.number) (Declaring j)) b r.passes in
        subst (λ (x : ℕ). Reaches next x b) (sym r.is) (subst (λ (y : ℕ). Reaches next (first_entry d + r.number) y) (sym s.is)
        (row_path r.number s.number (sources.reached r.number s.number (leads_direct d r.number s.number s.passes)))))
  ]

  are_nodes : AreNodes next
  are_nodes a b l = elim (or_cases (plain_edges d a b) (to_rows d rows (length (entries d)) a b) (at_node a b l)) [
    | inl plain ↦ (let k = edges_within d a b (plain_all a b plain) in omega (arith, k, count))
    | inr row ↦ (let r = rowed a b row in let t = r.to_is in let k = meant_below d r.from r.to (direct_leads d r.from r.to r.direct) in omega (arith, k, t, count))
  ]

  pub is_outline : IsOutline d next
  is_outline = record { count = count; edges = leads_there; reached = reached_there; handed = λ i j l. row_hands i j (sources.reached i j (leads_direct d i j l)); nodes = are_nodes }
