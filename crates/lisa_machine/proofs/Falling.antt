-- Ranks of the nodes of a description in which no operation reaches itself.
use Rattle.std.proofs.Common.{◌≡◌, ◌<◌, ◌&&◌, ℕ, zero, suc, Option, None, Some, Bool, true, nat_eq, nat_lt, length, refl, sym, ap₂, ◌∙◌, arith, ⊎_elim}
use Rattle.std.specs.Prelude.{slice_get}
use Rattle.std.proofs.lemmas.Bool.{and_from, and_parts, lt-ltb, ltb-true, cases_lt, eq-eqb}
use Rattle.std.proofs.lemmas.Option.{slice_get_within}
use Rattle.lisa_tree.specs.Descriptions.{DescriptionTree}
use Rattle.lisa_tree.specs.Declarations.{Entry, Choice, entries, choices}
use Rattle.lisa_tree.specs.Paths.{Node, Operation, Choosing, Declaring, node_at, node_count, choice_node, entry_node, leads}
use Rattle.description_graph.specs.Circles.{Reaches, edge, more, IsFirstCircularOperation}
use Rattle.description_graph.proofs.Acyclic.{no_circle}
use Rattle.description_graph.proofs.Numbered.{chosen_within, each_owner, each_reference}
use Rattle.description_graph.proofs.Nodes.{at_operation, at_choice, at_entry, alternatives_below}
use Rattle.description_graph.proofs.Meant.{meant_below}
use Rattle.lisa_machine.specs.Ranks.{Ranks, OperationRanks, Descent, onward}
use Rattle.lisa_machine.proofs.Heights as heights
use Rattle.lisa_machine.proofs.Heights.{Reach, Way, rank, rank_falls, rank_low, short}

-- ---- nodes that are there

abbrev IsThere : DescriptionTree → Node → Type 0
IsThere d (Operation o) = o < length d.operations
IsThere d (Choosing c) = c < length (choices d)
IsThere d (Declaring i) = i < length (entries d)

abbrev number : DescriptionTree → Node → ℕ
number d (Operation o) = o
number d (Choosing c) = choice_node d c
number d (Declaring i) = entry_node d i

number_below : (d : DescriptionTree) (x : Node) → IsThere d x → number d x < node_count d
number_below d (Operation o) h = omega arith
number_below d (Choosing c) h = omega arith
number_below d (Declaring i) h = omega arith

numbered : (d : DescriptionTree) (x : Node) → IsThere d x → node_at d (number d x) ≡ x
numbered d (Operation o) h = at_operation d o h
numbered d (Choosing c) h = at_choice d (choice_node d c) c h refl
numbered d (Declaring i) h = at_entry d (entry_node d i) i refl

-- ---- what leads somewhere is there, and so is where it leads

own_choice : (d : DescriptionTree) (a c : ℕ) → leads d (Operation a) (Choosing c) ≡ true → c < length (choices d)
own_choice d a c e = by (slice_get (choices d) c) refl
  where
    by : (r : Option Choice) → slice_get (choices d) c ≡ r → c < length (choices d)
    by None is = absurd (cc (is, e))
    by (Some x) is = slice_get_within (choices d) c x is

own_reference : (d : DescriptionTree) (a i : ℕ) → leads d (Operation a) (Declaring i) ≡ true → i < length (entries d)
own_reference d a i e = by (slice_get (entries d) i) refl
  where
    by : (r : Option Entry) → slice_get (entries d) i ≡ r → i < length (entries d)
    by None is = absurd (cc (is, e))
    by (Some x) is = slice_get_within (entries d) i x is

chooser : (d : DescriptionTree) (c o : ℕ) → leads d (Choosing c) (Operation o) ≡ true → c < length (choices d)
chooser d c o e = by (slice_get (choices d) c) refl
  where
    by : (r : Option Choice) → slice_get (choices d) c ≡ r → c < length (choices d)
    by None is = absurd (cc (is, e))
    by (Some x) is = slice_get_within (choices d) c x is

chosen_by : (d : DescriptionTree) (i c : ℕ) → leads d (Declaring i) (Choosing c) ≡ true → i < length (entries d)
chosen_by d i c e = by (slice_get (entries d) i) refl
  where
    by : (r : Option Entry) → slice_get (entries d) i ≡ r → i < length (entries d)
    by None is = absurd (cc (is, e))
    by (Some x) is = slice_get_within (entries d) i x is

meant_by : (d : DescriptionTree) (i j : ℕ) → leads d (Declaring i) (Declaring j) ≡ true → i < length (entries d)
meant_by d i j e = by (slice_get (entries d) i) refl
  where
    by : (r : Option Entry) → slice_get (entries d) i ≡ r → i < length (entries d)
    by None is = absurd (cc (is, e))
    by (Some x) is = slice_get_within (entries d) i x is

choosing_operation : (d : DescriptionTree) (a c : ℕ) → leads d (Operation a) (Choosing c) ≡ true → a < length d.operations
choosing_operation d a c e = ⊎_elim (λ l. l) (λ r. absurd (cc (sym (each_owner d a c r) ∙ e))) (cases_lt a (length d.operations))

referring_operation : (d : DescriptionTree) (a i : ℕ) → leads d (Operation a) (Declaring i) ≡ true → a < length d.operations
referring_operation d a i e = ⊎_elim (λ l. l) (λ r. absurd (cc (sym (each_reference d a i r) ∙ e))) (cases_lt a (length d.operations))

both_there : (d : DescriptionTree) (x y : Node) → leads d x y ≡ true → IsThere d x × IsThere d y
both_there d (Operation a) (Operation b) e = absurd (cc e)
both_there d (Operation a) (Choosing c) e = (choosing_operation d a c e, own_choice d a c e)
both_there d (Operation a) (Declaring i) e = (referring_operation d a i e, own_reference d a i e)
both_there d (Choosing c) (Operation b) e = (chooser d c b e, alternatives_below d c b e)
both_there d (Choosing c) (Choosing k) e = absurd (cc e)
both_there d (Choosing c) (Declaring i) e = absurd (cc e)
both_there d (Declaring i) (Operation b) e = absurd (cc e)
both_there d (Declaring i) (Choosing c) e = (chosen_by d i c e, chosen_within d i c e)
both_there d (Declaring i) (Declaring j) e = (meant_by d i j e, meant_below d i j e)

-- ---- the graph by numbers

abbrev joins : DescriptionTree → ℕ → ℕ → Bool
joins d a b = nat_lt a (node_count d) && (nat_lt b (node_count d) && leads d (node_at d a) (node_at d b))

joins_nodes : (d : DescriptionTree) (a b : ℕ) → joins d a b ≡ true → (a < node_count d) × (b < node_count d)
joins_nodes d a b e =
    let p = and_parts (nat_lt a (node_count d)) (nat_lt b (node_count d) && leads d (node_at d a) (node_at d b)) e in
    let q = and_parts (nat_lt b (node_count d)) (leads d (node_at d a) (node_at d b)) p.1 in
    (ltb-true a (node_count d) p.0, ltb-true b (node_count d) q.0)

joins_leads : (d : DescriptionTree) (a b : ℕ) → joins d a b ≡ true → leads d (node_at d a) (node_at d b) ≡ true
joins_leads d a b e =
    let p = and_parts (nat_lt a (node_count d)) (nat_lt b (node_count d) && leads d (node_at d a) (node_at d b)) e in
    (and_parts (nat_lt b (node_count d)) (leads d (node_at d a) (node_at d b)) p.1).1

joined : (d : DescriptionTree) (x y : Node) → leads d x y ≡ true → joins d (number d x) (number d y) ≡ true
joined d x y e =
    let t = both_there d x y e in
    and_from (nat_lt (number d x) (node_count d)) _ (lt-ltb (number d x) (node_count d) (number_below d x t.0))
    (and_from (nat_lt (number d y) (node_count d)) _ (lt-ltb (number d y) (node_count d) (number_below d y t.1))
    (ap₂ (leads d) (numbered d x t.0) (numbered d y t.1) ∙ e))

to_nodes : (d : DescriptionTree) (a b : ℕ) → Reach (joins d) a b → Reaches d (node_at d a) (node_at d b)
to_nodes d a b (heights.one e) = edge (joins_leads d a b e)
to_nodes d a b (heights.more {b = m} r e) = more (to_nodes d a m r) (joins_leads d m b e)

module _ (d : DescriptionTree) (none : IsFirstCircularOperation d None) where
  acyclic : (a : ℕ) → Reach (joins d) a a → ⊥
  acyclic a r = no_circle d none (node_at d a) (to_nodes d a a r)

  pub node_ranks : Ranks d
  node_ranks = record {
    rank = λ x. rank (joins d) (node_count d) (number d x);
    low = λ x. rank_low (joins d) (node_count d) (joins_nodes d) acyclic (number d x);
    falls = λ x y e. rank_falls (joins d) (node_count d) (joins_nodes d) acyclic (number d x) (number d y) (joined d x y e);
  }

  pub operation_ranks : OperationRanks d
  operation_ranks = record {
    rank = λ o. node_ranks.rank (Operation o);
    low = λ o. node_ranks.low (Operation o);
    falls = λ c o x is listed.
        (let first = node_ranks.falls (Operation x.operation) (Choosing c) (owned c x is) in
        let second = node_ranks.falls (Choosing c) (Operation o) listed in
        omega (arith, first, second));
  }
    where
      owned : (c : ℕ) (x : Choice) → slice_get (choices d) c ≡ Some x → leads d (Operation x.operation) (Choosing c) ≡ true
      owned c x is = let same : nat_eq x.operation x.operation ≡ true = eq-eqb x.operation x.operation refl in cc (is, same)

  way_down : (k : ℕ) (x : Node) → Descent d k x → Way (joins d) k (number d x)
  way_down zero x g = heights.still
  way_down (suc k) x (onward {b = y} e g) = heights.onward (joined d x y e) (way_down k y g)

  pub descent_ends : (k : ℕ) (x : Node) → 0 < node_count d → Descent d k x → k < node_count d
  descent_ends zero x some g = some
  descent_ends (suc k) x some (onward {b = y} e g) =
      short (joins d) (node_count d) (joins_nodes d) acyclic (suc k) (number d x) (way_down (suc k) x (onward e g)) (number_below d x (both_there d x y e).0)
