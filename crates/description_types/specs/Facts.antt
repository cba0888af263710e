-- Facts about operations, choices and declared names that rest on each other.
use Rattle.std.specs.Prelude.{ℕ, Bool, ◌≡◌, List, [], ◌∷◌, Option, None, Some, option_map}
use Rattle.std.specs.Option.{is_none}
use Rattle.std.specs.List.{list_any}
use Rattle.lisa_tree.specs.Descriptions.{DescriptionTree}
use Rattle.lisa_tree.specs.declared.declared.What.{What}
use Rattle.lisa_tree.specs.declared.declared.What.TheVariants as whats
use Rattle.lisa_tree.specs.Declarations.{declared_at, what_at, owner_at, entry_name_at, above}
use Rattle.lisa_tree.specs.Paths.{Node, Operation, Choosing, Declaring, node_at, choice_node, entry_node}
use Rattle.least_fixed_points.specs.Settles.{IsWithin}

-- A fact of each operation, choice and declared name, by what is known of others.
pub record Fact (T : Type 0) : Type 0 where
  pub of_operation : (ℕ → Option T) → ℕ → Option T
  pub of_choice : (ℕ → Option T) → ℕ → Option T
  -- of a label, by its number among the declared names
  pub of_label : ℕ → T
  -- of a group or an instance, by its number among the declared names and the fact of its choice
  pub of_child : ℕ → T → T
  -- of a reference that may mean two declarations
  pub either : T → T → T

-- what two make together, where both are known
abbrev pub together : {T : Type 0} → (T → T → T) → Option T → Option T → Option T
together f (Some x) (Some y) = Some (f x y)
together f _ _ = None

abbrev pub merged_from : {T : Type 0} → (T → T → T) → (ℕ → Option T) → Option T → List ℕ → Option T
merged_from f value so_far [] = so_far
merged_from f value so_far (a ∷ rest) = merged_from f value (together f so_far (value a)) rest

-- what the values of a list make together; an empty list has none
abbrev pub merged : {T : Type 0} → (T → T → T) → (ℕ → Option T) → List ℕ → Option T
merged f value [] = None
merged f value (a ∷ rest) = merged_from f value (value a) rest

-- what one value makes of what others make; where it isn't known, nothing else
abbrev pub added : {T : Type 0} → (T → T → T) → Option T → Option T → Option T
added f None others = others
added f (Some x) None = Some x
added f (Some x) (Some y) = Some (f x y)

-- what those values of a list that are known make together
abbrev pub known_together : {T : Type 0} → (T → T → T) → (ℕ → Option T) → List ℕ → Option T
known_together f value [] = None
known_together f value (a ∷ rest) = added f (value a) (known_together f value rest)

-- some value of a list isn't known
abbrev pub any_open : {T : Type 0} → (ℕ → Option T) → List ℕ → Bool
any_open value all = list_any (λ a. is_none (value a)) all

abbrev pub at_entry : {T : Type 0} → DescriptionTree → (ℕ → Option T) → Option ℕ → Option T
at_entry d known None = None
at_entry d known (Some i) = known (entry_node d i)

-- what is known of a name that an operation declares
abbrev pub declared_value : {T : Type 0} → DescriptionTree → (ℕ → Option T) → List ℕ → ℕ → Option T
declared_value d known n p = at_entry d known (declared_at d p n)

-- of a reference: what the declarations by the operations above make together
abbrev pub reference_value : {T : Type 0} → DescriptionTree → (T → T → T) → (ℕ → Option T) → ℕ → Option (List ℕ) → Option T
reference_value d f known o None = None
reference_value d f known o (Some n) = merged f (declared_value d known n) (above d o)

abbrev pub entry_value : {T : Type 0} → DescriptionTree → Fact T → (ℕ → Option T) → ℕ → Option What → Option T
entry_value d fact known i None = None
entry_value d fact known i (Some (whats.Group c)) = option_map (fact.of_child i) (known (choice_node d c))
entry_value d fact known i (Some (whats.Instance c)) = option_map (fact.of_child i) (known (choice_node d c))
entry_value d fact known i (Some whats.Label) = Some (fact.of_label i)
entry_value d fact known i (Some whats.Reference) = reference_value d fact.either known (owner_at d i) (entry_name_at d i)

abbrev pub node_value : {T : Type 0} → DescriptionTree → Fact T → (ℕ → Option T) → Node → Option T
node_value d fact known (Operation o) = fact.of_operation known o
node_value d fact known (Choosing c) = fact.of_choice known c
node_value d fact known (Declaring i) = entry_value d fact known i (what_at d i)

-- what follows for a node from what is known
abbrev pub follows : {T : Type 0} → DescriptionTree → Fact T → (ℕ → Option T) → ℕ → Option T
follows d fact known a = node_value d fact known (node_at d a)

-- what a larger table gives has all that a smaller one gives
pub record IsSteady {T : Type 0} (fact : Fact T) : Type 0 where
  pub operations : (known table : ℕ → Option T) → IsWithin known table → (o : ℕ) (t : T) → fact.of_operation known o ≡ Some t → fact.of_operation table o ≡ Some t
  pub choices : (known table : ℕ → Option T) → IsWithin known table → (c : ℕ) (t : T) → fact.of_choice known c ≡ Some t → fact.of_choice table c ≡ Some t
