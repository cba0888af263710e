-- How what references may choose is gathered, one reference after another.
use Rattle.std.specs.Prelude.{ℕ, ◌≡◌, ◌-◌, ◌||◌, Bool, true, List, [], ◌∷◌, ◌++◌, Option, Some, cond, nat_lt, length}
use Rattle.std.specs.List.Sorted.{IsStrictlyIncreasing}
use Rattle.std.specs.Global.{Vec}
use Rattle.lisa_tree.specs.Descriptions.{DescriptionTree}
use Rattle.graph_paths.specs.Paths.{targets, is_in, saw}
use Rattle.lisa_tree.specs.declared.declared.What.{What}
use Rattle.lisa_tree.specs.declared.declared.What.TheVariants as whats
use Rattle.lisa_tree.specs.Declarations.{entries, what_at}
use Rattle.lisa_tree.specs.Paths.{entry_node}
use Rattle.description_graph.specs.Graph.{first_entry}
use Rattle.text_counts.specs.References.{MayMean, chosen_by}

-- The lists of references so far: nothing stands in them that isn't meant, and those that are done have all.
pub record IsGathered (d : DescriptionTree) (lists : List (Vec ℕ)) (done : List Bool) : Type 0 where
  pub count : length lists ≡ length (entries d)
  pub flags : length done ≡ length (entries d)
  pub rising : (i : ℕ) → IsStrictlyIncreasing (targets lists i)
  pub sound : (i a : ℕ) → what_at d i ≡ Some whats.Reference → is_in a (targets lists i) ≡ true → MayMean d i a
  pub whole : (i a : ℕ) → what_at d i ≡ Some whats.Reference → saw done i ≡ true → MayMean d i a → is_in a (targets lists i) ≡ true

-- what a declared name may choose is known: it is no reference, or one that is done
abbrev pub is_ready : List Bool → ℕ → Option What → Bool
is_ready done j (Some whats.Reference) = saw done j
is_ready done j _ = true

abbrev pub ready_at : DescriptionTree → List Bool → ℕ → Bool
ready_at d done j = is_ready done j (what_at d j)

abbrev pub is_node_ready : DescriptionTree → List Bool → ℕ → Bool
is_node_ready d done node = nat_lt node (first_entry d) || ready_at d done (node - first_entry d)

-- ---- the declared names among some nodes, and what they choose together

abbrev pub gathered_at : DescriptionTree → (ℕ → List ℕ) → ℕ → List ℕ
gathered_at d means node = cond (nat_lt node (first_entry d)) [] (chosen_by d means (node - first_entry d) (what_at d (node - first_entry d)))

abbrev pub gathered : DescriptionTree → (ℕ → List ℕ) → List ℕ → List ℕ
gathered d means [] = []
gathered d means (node ∷ rest) = gathered_at d means node ++ gathered d means rest

-- one of the nodes is a declared name that may choose the operation, and for which that is known
pub record Source (d : DescriptionTree) (done : List Bool) (nodes : List ℕ) (a : ℕ) : Type 0 where
  pub name : ℕ
  pub stands : is_in (entry_node d name) nodes ≡ true
  pub ready : ready_at d done name ≡ true
  pub chooses : MayMean d name a

-- what these nodes may choose, and nothing else, is what the declared name may choose
pub record AreSources (d : DescriptionTree) (done : List Bool) (i : ℕ) (nodes : List ℕ) : Type 0 where
  pub sound : (j a : ℕ) → is_in (entry_node d j) nodes ≡ true → MayMean d j a → MayMean d i a
  pub whole : (a : ℕ) → MayMean d i a → Source d done nodes a

-- the edges from a number on
abbrev pub late_row : ℕ → List (Vec ℕ) → ℕ → List ℕ
late_row base next a = cond (nat_lt a base) [] (targets next a)
