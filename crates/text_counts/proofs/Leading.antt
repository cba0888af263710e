-- Where declared names lead, by what they are.
use Rattle.std.proofs.Common.{◌≡◌, ◌<◌, ◌&&◌, ℕ, List, Option, None, Some, Bool, true, false, nat_eq, length, refl, ap, ap₂, sym, ◌∙◌}
use Rattle.std.specs.Prelude.{slice_get}
use Rattle.std.specs.List.{list_any}
use Rattle.std.specs.Global.{Vec}
use Rattle.std.proofs.lemmas.Bool.{and_parts}
use Rattle.std.proofs.lemmas.Option.{same_Some, slice_get_within}
use Rattle.lisa_tree.specs.Descriptions.{DescriptionTree}
use Rattle.graph_paths.specs.Paths.{Leads}
use Rattle.lisa_tree.specs.declared.declared.What.{What}
use Rattle.lisa_tree.specs.declared.declared.What.TheVariants as whats
use Rattle.lisa_tree.specs.Declarations.{Entry, entries, what_at, declared_at, above}
use Rattle.lisa_tree.specs.Paths.{Choosing, Declaring, leads, entry_node}
use Rattle.description_graph.specs.Graph.{IsOutline, is_at}
use Rattle.description_graph.proofs.Nodes.{at_entry}

abbrev pub picks : What → ℕ → Bool
picks (whats.Group k) c = nat_eq k c
picks (whats.Instance k) c = nat_eq k c
picks _ c = false

abbrev picked_by : Option Entry → ℕ → Bool
picked_by None c = false
picked_by (Some e) c = picks e.what c

abbrev pub refers : What → Bool
refers whats.Reference = true
refers _ = false

abbrev next_by : DescriptionTree → Option Entry → ℕ → Bool
next_by d None j = false
next_by d (Some e) j = refers e.what && list_any (λ p. is_at (declared_at d p e.name) j) (above d e.operation)

abbrev told : Option Entry → Option What
told None = None
told (Some e) = Some e.what

module _ (d : DescriptionTree) where
  what_is : (i : ℕ) (x : Entry) (w : What) → slice_get (entries d) i ≡ Some x → what_at d i ≡ Some w → x.what ≡ w
  what_is i x w e is = same_Some x.what w (sym (ap told e) ∙ is)

  pub choice_by : (i k : ℕ) (w : What) → what_at d i ≡ Some w → leads d (Declaring i) (Choosing k) ≡ picks w k
  choice_by i k w is = by (slice_get (entries d) i) refl
    where
      by : (r : Option Entry) → slice_get (entries d) i ≡ r → leads d (Declaring i) (Choosing k) ≡ picks w k
      by None e = absurd (cc (sym (ap told e) ∙ is))
      by (Some x) e = ap (λ (r : Option Entry). picked_by r k) e ∙ ap (λ (v : What). picks v k) (what_is i x w e is)

  pub no_choice : (i k : ℕ) → what_at d i ≡ None → leads d (Declaring i) (Choosing k) ≡ true → ⊥
  no_choice i k is t = by (slice_get (entries d) i) refl
    where
      by : (r : Option Entry) → slice_get (entries d) i ≡ r → ⊥
      by None e = absurd (cc (sym (ap (λ (r : Option Entry). picked_by r k) e) ∙ t))
      by (Some x) e = absurd (cc (sym (ap told e) ∙ is))

  pub no_reference : (i j : ℕ) → what_at d i ≡ None → leads d (Declaring i) (Declaring j) ≡ true → ⊥
  no_reference i j is t = by (slice_get (entries d) i) refl
    where
      by : (r : Option Entry) → slice_get (entries d) i ≡ r → ⊥
      by None e = absurd (cc (sym (ap (λ (r : Option Entry). next_by d r j) e) ∙ t))
      by (Some x) e = absurd (cc (sym (ap told e) ∙ is))

  pub refers_by : (i j : ℕ) (w : What) → what_at d i ≡ Some w → leads d (Declaring i) (Declaring j) ≡ true → refers w ≡ true
  refers_by i j w is t = by (slice_get (entries d) i) refl
    where
      by : (r : Option Entry) → slice_get (entries d) i ≡ r → refers w ≡ true
      by None e = absurd (cc (sym (ap told e) ∙ is))
      by (Some x) e =
          let parts : next_by d (Some x) j ≡ true = sym (ap (λ (r : Option Entry). next_by d r j) e) ∙ t in
          ap refers (sym (what_is i x w e is)) ∙ (and_parts (refers x.what) (list_any (λ p. is_at (declared_at d p x.name) j) (above d x.operation)) parts).0

  pub declared : (i : ℕ) (w : What) → what_at d i ≡ Some w → i < length (entries d)
  declared i w is = by (slice_get (entries d) i) refl
    where
      by : (r : Option Entry) → slice_get (entries d) i ≡ r → i < length (entries d)
      by None e = absurd (cc (sym (ap told e) ∙ is))
      by (Some x) e = slice_get_within (entries d) i x e

  module _ (next : List (Vec ℕ)) (graph : IsOutline d next) where
    pub edge_there : (i j : ℕ) → Leads next (entry_node d i) (entry_node d j) → leads d (Declaring i) (Declaring j) ≡ true
    edge_there i j e = sym (ap₂ (leads d) (at_entry d (entry_node d i) i refl) (at_entry d (entry_node d j) j refl)) ∙ graph.edges (entry_node d i) (entry_node d j) e
