-- Paths over nodes, and over their numbers.
use Rattle.std.proofs.Common.{◌≡◌, ◌<◌, ◌≤◌, ◌+◌, ℕ, List, Option, None, Some, true, length, refl, ap, ap₂, sym, ◌∙◌, arith, subst}
use Rattle.std.specs.Prelude.{slice_get}
use Rattle.std.specs.Global.{Vec}
use Rattle.std.proofs.lemmas.Option.{slice_get_within}
use Rattle.graph_paths.specs.Paths.{targets, is_in, Leads, AreNodes, IsFirstCircular, IsAcyclic}
use Rattle.graph_paths.specs.Paths as numbers
use Rattle.graph_paths.proofs.Long.{within}
use Rattle.lisa_tree.specs.Descriptions.{DescriptionTree}
use Rattle.lisa_tree.specs.Declarations.{Entry, Choice, entries, choices}
use Rattle.lisa_tree.specs.Paths.{Node, Operation, Choosing, Declaring, node_at, node_count, leads}
use Rattle.description_graph.specs.Graph.{IsOutline, first_choice, first_entry}
use Rattle.description_graph.specs.Circles.{Reaches, edge, more, IsFirstCircularOperation}
use Rattle.description_graph.proofs.Numbered.{chosen_within}
use Rattle.description_graph.proofs.Nodes.{Place, operation, choosing, declaring, place_of, at_operation, at_choice, at_entry, alternatives_below}
use Rattle.description_graph.proofs.Meant.{meant_below}
use Rattle.description_graph.proofs.Outlining.{beyond}

-- a node that has a number
record Numbered (d : DescriptionTree) (x : Node) : Type 0 where
  pub number : ℕ
  pub below : number < node_count d
  pub stands : node_at d number ≡ x

choice_is : (d : DescriptionTree) (c : ℕ) → c < length (choices d) → Numbered d (Choosing c)
choice_is d c h = record { number = first_choice d + c; below = omega arith; stands = at_choice d (first_choice d + c) c h refl }

entry_is : (d : DescriptionTree) (i : ℕ) → i < length (entries d) → Numbered d (Declaring i)
entry_is d i h = record { number = first_entry d + i; below = omega arith; stands = at_entry d (first_entry d + i) i refl }

operation_is : (d : DescriptionTree) (o : ℕ) → o < length d.operations → Numbered d (Operation o)
operation_is d o h = record { number = o; below = omega arith; stands = at_operation d o h }

-- what an operation leads to is there
own_choice : (d : DescriptionTree) (a c : ℕ) (r : Option Choice) → slice_get (choices d) c ≡ r → leads d (Operation a) (Choosing c) ≡ true → c < length (choices d)
own_choice d a c None e t = absurd (cc (e, t))
own_choice d a c (Some x) e t = slice_get_within (choices d) c x e

own_reference : (d : DescriptionTree) (a i : ℕ) (r : Option Entry) → slice_get (entries d) i ≡ r → leads d (Operation a) (Declaring i) ≡ true → i < length (entries d)
own_reference d a i None e t = absurd (cc (e, t))
own_reference d a i (Some x) e t = slice_get_within (entries d) i x e

next_number : (d : DescriptionTree) (x y : Node) → leads d x y ≡ true → Numbered d y
next_number d (Operation a) (Operation b) e = absurd (cc e)
next_number d (Operation a) (Choosing c) e = choice_is d c (own_choice d a c (slice_get (choices d) c) refl e)
next_number d (Operation a) (Declaring i) e = entry_is d i (own_reference d a i (slice_get (entries d) i) refl e)
next_number d (Choosing c) (Operation b) e = operation_is d b (alternatives_below d c b e)
next_number d (Choosing c) (Choosing k) e = absurd (cc e)
next_number d (Choosing c) (Declaring i) e = absurd (cc e)
next_number d (Declaring i) (Operation b) e = absurd (cc e)
next_number d (Declaring i) (Choosing c) e = choice_is d c (chosen_within d i c e)
next_number d (Declaring i) (Declaring j) e = entry_is d j (meant_below d i j e)

leads_to_operation : (d : DescriptionTree) (x : Node) (o : ℕ) → leads d x (Operation o) ≡ true → o < length d.operations
leads_to_operation d (Operation a) o e = absurd (cc e)
leads_to_operation d (Choosing c) o e = alternatives_below d c o e
leads_to_operation d (Declaring i) o e = absurd (cc e)

ends_at : (d : DescriptionTree) (x y : Node) (o : ℕ) → y ≡ Operation o → Reaches d x y → o < length d.operations
ends_at d x y o is (edge e) = leads_to_operation d x o (ap (leads d x) (sym is) ∙ e)
ends_at d x y o is (more {b = m} r e) = leads_to_operation d m o (ap (leads d m) (sym is) ∙ e)

one_number : (d : DescriptionTree) (b o : ℕ) → b < node_count d → node_at d b ≡ Operation o → b ≡ o
one_number d b o h is = by (place_of d b h)
  where
    by : Place d b → b ≡ o
    by (operation l at) = cc (at, is)
    by (choosing c l e at) = absurd (cc (at, is))
    by (declaring i l e at) = absurd (cc (at, is))

module _ (d : DescriptionTree) (next : List (Vec ℕ)) (graph : IsOutline d next) where
  below : (a b : ℕ) → Leads next a b → a < node_count d
  below a b e = let l = within next a b e in omega (arith, l, graph.count)

  leads_there : (a b : ℕ) → Leads next a b → leads d (node_at d a) (node_at d b) ≡ true
  leads_there a b e = graph.edges a b e

  pub to_nodes : (a b : ℕ) → numbers.Reaches next a b → Reaches d (node_at d a) (node_at d b)
  to_nodes a b (numbers.edge e) = edge (leads_there a b e)
  to_nodes a b (numbers.more {b = m} r e) = more (to_nodes a m r) (leads_there m b e)

  record Reached (a : ℕ) (y : Node) : Type 0 where
    pub number : ℕ
    pub below : number < node_count d
    pub stands : node_at d number ≡ y
    pub path : numbers.Reaches next a number

  to_numbers : (a : ℕ) (x y : Node) → a < node_count d → node_at d a ≡ x → Reaches d x y → Reached a y
  to_numbers a x y h is (edge e) =
      let n = next_number d x y e in
      record { number = n.number; below = n.below; stands = n.stands; path = graph.reached a n.number h n.below (ap₂ (leads d) is n.stands ∙ e) }
  to_numbers a x y h is (more {b = m} r e) =
      let p = to_numbers a x m h is r in
      let n = next_number d m y e in
      record { number = n.number; below = n.below; stands = n.stands; path = beyond p.path (graph.reached p.number n.number p.below n.below (ap₂ (leads d) p.stands n.stands ∙ e)) }

  circle : (o : ℕ) → Reaches d (Operation o) (Operation o) → (o < length d.operations) × numbers.Reaches next o o
  circle o r =
      let l : o < length d.operations = ends_at d (Operation o) (Operation o) o refl r in
      let p = to_numbers o (Operation o) (Operation o) (omega (arith, l)) (at_operation d o l) r in
      let same : p.number ≡ o = one_number d p.number o p.below p.stands in
      (l, subst (λ (n : ℕ). numbers.Reaches next o n) same p.path)

  pub first_some : (a : ℕ) → a < length d.operations → IsFirstCircular next (Some a) → IsFirstCircularOperation d (Some a)
  first_some a h first = (h, subst (λ (x : Node). Reaches d x x) (at_operation d a h) (to_nodes a a first.0), λ p l r. first.1 p l (circle p r).1)

  pub first_later : (a : ℕ) → length d.operations ≤ a → IsFirstCircular next (Some a) → IsFirstCircularOperation d None
  first_later a h first = λ o r. let c = circle o r in let l = c.0 in first.1 o (omega (arith, l)) c.1

  pub first_none : IsFirstCircular next None → IsFirstCircularOperation d None
  first_none none = λ o r. none o (circle o r).1

pub first_found : (next : List (Vec ℕ)) (found is : Option ℕ) → found ≡ is → IsFirstCircular next found → IsFirstCircular next is
first_found next found is e first = subst (IsFirstCircular next) e first
