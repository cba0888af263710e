-- The same facts, where those of references follow from some of what they directly mean.
use Rattle.std.proofs.Common.{◌≡◌, ◌-◌, ◌≤◌, ℕ, Bool, true, false, List, Option, None, Some, cond, nat_lt, length, ap, ◌∙◌, arith}
use Rattle.std.specs.Global.{Vec}
use Rattle.lisa_tree.specs.Descriptions.{DescriptionTree}
use Rattle.lisa_tree.specs.declared.declared.What.{What}
use Rattle.lisa_tree.specs.declared.declared.What.TheVariants as whats
use Rattle.lisa_tree.specs.Declarations.{choices, what_at}
use Rattle.lisa_tree.specs.Paths.{Node, Operation, Choosing, Declaring, node_at, node_count, entry_node}
use Rattle.graph_paths.specs.Paths.{targets, saw}
use Rattle.least_fixed_points.specs.Settles.{IsWithin, IsMonotone}
use Rattle.description_types.specs.Facts.{Fact, IsSteady, merged, entry_value}
use Rattle.description_types.specs.Larger.{Less, same_less, none_less, within_less, merged_less, entry_less}
use Rattle.description_types.specs.Ends.{past, what_past}

-- what some declared names make together
abbrev pub source_value : {T : Type 0} → DescriptionTree → (T → T → T) → (ℕ → Option T) → List ℕ → Option T
source_value d f known row = merged f (λ k. known (entry_node d k)) row

-- of a reference: nothing where it is marked, and else what those of its row make together
abbrev pub sourced_value : {T : Type 0} → DescriptionTree → List (Vec ℕ) → List Bool → (T → T → T) → (ℕ → Option T) → ℕ → Option T
sourced_value d rows lacking f known i = cond (saw lacking i) None (source_value d f known (targets rows i))

abbrev pub sourced_entry : {T : Type 0} → DescriptionTree → List (Vec ℕ) → List Bool → Fact T → (ℕ → Option T) → ℕ → Option What → Option T
sourced_entry d rows lacking fact known i None = None
sourced_entry d rows lacking fact known i (Some (whats.Group c)) = entry_value d fact known i (Some (whats.Group c))
sourced_entry d rows lacking fact known i (Some (whats.Instance c)) = entry_value d fact known i (Some (whats.Instance c))
sourced_entry d rows lacking fact known i (Some whats.Label) = entry_value d fact known i (Some whats.Label)
sourced_entry d rows lacking fact known i (Some whats.Reference) = sourced_value d rows lacking fact.either known i

abbrev pub sourced_node : {T : Type 0} → DescriptionTree → List (Vec ℕ) → List Bool → Fact T → (ℕ → Option T) → Node → Option T
sourced_node d rows lacking fact known (Operation o) = fact.of_operation known o
sourced_node d rows lacking fact known (Choosing c) = fact.of_choice known c
sourced_node d rows lacking fact known (Declaring i) = sourced_entry d rows lacking fact known i (what_at d i)

abbrev pub follows_sources : {T : Type 0} → DescriptionTree → List (Vec ℕ) → List Bool → Fact T → (ℕ → Option T) → ℕ → Option T
follows_sources d rows lacking fact known a = sourced_node d rows lacking fact known (node_at d a)

-- what two make together doesn't rest on their order or on how often they stand there
pub record IsJoin {T : Type 0} (f : T → T → T) : Type 0 where
  pub associates : (x y z : T) → f (f x y) z ≡ f x (f y z)
  pub commutes : (x y : T) → f x y ≡ f y x
  pub idles : (x : T) → f x x ≡ x

module _ {T : Type 0} (d : DescriptionTree) (rows : List (Vec ℕ)) (lacking : List Bool) (fact : Fact T) where
  module _ (known table : ℕ → Option T) (within : IsWithin known table) where
    sourced_less : (b : Bool) (row : List ℕ) → Less (cond b None (source_value d fact.either known row)) (cond b None (source_value d fact.either table row))
    sourced_less true row = same_less _
    sourced_less false row = merged_less fact.either (λ k. known (entry_node d k)) (λ k. table (entry_node d k)) (λ k. within_less known table within (entry_node d k)) row

    each_less : (i : ℕ) (what : Option What) → Less (sourced_entry d rows lacking fact known i what) (sourced_entry d rows lacking fact table i what)
    each_less i None = same_less _
    each_less i (Some (whats.Group c)) = entry_less d known table within fact i (Some (whats.Group c))
    each_less i (Some (whats.Instance c)) = entry_less d known table within fact i (Some (whats.Instance c))
    each_less i (Some whats.Label) = entry_less d known table within fact i (Some whats.Label)
    each_less i (Some whats.Reference) = sourced_less (saw lacking i) (targets rows i)

    node_sourced_less : IsSteady fact → (node : Node) → Less (sourced_node d rows lacking fact known node) (sourced_node d rows lacking fact table node)
    node_sourced_less steady (Operation o) = record { keeps = λ t e. steady.operations known table within o t e }
    node_sourced_less steady (Choosing c) = record { keeps = λ t e. steady.choices known table within c t e }
    node_sourced_less steady (Declaring i) = each_less i (what_at d i)

  pub sources_monotone : IsSteady fact → IsMonotone (follows_sources d rows lacking fact)
  sources_monotone steady known table within a t e = (node_sourced_less known table within steady (node_at d a)).keeps t e

  pub sources_end : (known : ℕ → Option T) (a : ℕ) → node_count d ≤ a → follows_sources d rows lacking fact known a ≡ None
  sources_end known a h =
      let operations : nat_lt a (length d.operations) ≡ false = past a (length d.operations) (omega arith) in
      let chosen : nat_lt (a - length d.operations) (length (choices d)) ≡ false = past (a - length d.operations) (length (choices d)) (omega arith) in
      let what : what_at d (a - length d.operations - length (choices d)) ≡ None = what_past d (a - length d.operations - length (choices d)) (omega arith) in
      ap (λ (b : Bool). sourced_node d rows lacking fact known (cond b (Operation a) (cond (nat_lt (a - length d.operations) (length (choices d))) (Choosing (a - length d.operations)) (Declaring (a - length d.operations - length (choices d)))))) operations
      ∙ ap (λ (b : Bool). sourced_node d rows lacking fact known (cond b (Choosing (a - length d.operations)) (Declaring (a - length d.operations - length (choices d))))) chosen
      ∙ ap (sourced_entry d rows lacking fact known (a - length d.operations - length (choices d))) what
