-- Sums over what is below operations and choices: what follows for each from those it leads to.
use Rattle.std.proofs.Common.{◌≡◌, ℕ, ◌+◌, ◌-◌, ◌≤◌, Bool, false, List, [], ◌∷◌, Option, None, Some, cond, nat_eq, nat_lt, length, map, refl, ap, ap₂, ◌∙◌, arith}
use Rattle.lisa_tree.specs.Descriptions.{DescriptionTree}
use Rattle.lisa_tree.specs.Declarations.{choices, plain_at}
use Rattle.lisa_tree.specs.Paths.{Node, Operation, Choosing, Declaring, node_at, choice_node}
use Rattle.least_fixed_points.specs.Settles.{IsWithin, IsMonotone}
use Rattle.lisa_machine.specs.description_types.Larger.{Less, none_less, same_less, within_less}
use Rattle.activation_trees.specs.declared.parts.Start.{Start}
use Rattle.activation_trees.specs.Starting.{starts}
use Rattle.activation_trees.specs.Unfolding.{capped}

-- an operation counts once, or only where it is this one
abbrev pub weight : Option ℕ → ℕ → ℕ
weight None o = 1
weight (Some r) o = cond (nat_eq o r) 1 0

abbrev pub added : Option ℕ → Option ℕ → Option ℕ
added (Some v) (Some w) = Some (capped (v + w))
added _ _ = None

-- a sum, and what is known of more nodes
abbrev pub summed : (ℕ → Option ℕ) → Option ℕ → List ℕ → Option ℕ
summed known so_far [] = so_far
summed known so_far (a ∷ rest) = summed known (added so_far (known a)) rest

abbrev pub start_nodes : DescriptionTree → List Start → List ℕ
start_nodes d all = map (λ s. choice_node d s.choice) all

abbrev pub node_sum : DescriptionTree → Option ℕ → (ℕ → Option ℕ) → Node → Option ℕ
node_sum d only known (Operation o) = summed known (Some (weight only o)) (start_nodes d (starts d o))
node_sum d only known (Choosing c) = summed known (Some 0) (plain_at d c)
node_sum d only known (Declaring i) = None

abbrev pub sum_step : DescriptionTree → Option ℕ → (ℕ → Option ℕ) → ℕ → Option ℕ
sum_step d only known a = node_sum d only known (node_at d a)

-- how many operations and choices there are
abbrev pub sum_count : DescriptionTree → ℕ
sum_count d = length d.operations + length (choices d)

-- ---- A larger table gives all sums that a smaller one gives, and only operations and choices have any.

added_less : (x y x' y' : Option ℕ) → Less x x' → Less y y' → Less (added x y) (added x' y')
added_less None y x' y' l m = none_less _
added_less (Some v) None x' y' l m = none_less _
added_less (Some v) (Some w) x' y' l m = record { keeps = λ t e. ap₂ added (l.keeps v refl) (m.keeps w refl) ∙ e }

module _ (known table : ℕ → Option ℕ) (within : IsWithin known table) where
  summed_less : (x y : Option ℕ) (all : List ℕ) → Less x y → Less (summed known x all) (summed table y all)
  summed_less x y [] l = l
  summed_less x y (a ∷ rest) l = summed_less (added x (known a)) (added y (table a)) rest (added_less x (known a) y (table a) l (within_less known table within a))

  node_less : (d : DescriptionTree) (only : Option ℕ) (node : Node) → Less (node_sum d only known node) (node_sum d only table node)
  node_less d only (Operation o) = summed_less (Some (weight only o)) (Some (weight only o)) (start_nodes d (starts d o)) (same_less _)
  node_less d only (Choosing c) = summed_less (Some 0) (Some 0) (plain_at d c) (same_less _)
  node_less d only (Declaring i) = same_less _

pub sums_monotone : (d : DescriptionTree) (only : Option ℕ) → IsMonotone (sum_step d only)
sums_monotone d only known table within a t e = (node_less known table within d only (node_at d a)).keeps t e

past : (a n : ℕ) → n ≤ a → nat_lt a n ≡ false
past a n h = grind arith

pub sums_end : (d : DescriptionTree) (only : Option ℕ) (known : ℕ → Option ℕ) (a : ℕ) → sum_count d ≤ a → sum_step d only known a ≡ None
sums_end d only known a h =
    let operations : nat_lt a (length d.operations) ≡ false = past a (length d.operations) (omega arith) in
    let chosen : nat_lt (a - length d.operations) (length (choices d)) ≡ false = past (a - length d.operations) (length (choices d)) (omega arith) in
    ap (λ (b : Bool). node_sum d only known (cond b (Operation a) (cond (nat_lt (a - length d.operations) (length (choices d))) (Choosing (a - length d.operations)) (Declaring (a - length d.operations - length (choices d)))))) operations
    ∙ ap (λ (b : Bool). node_sum d only known (cond b (Choosing (a - length d.operations)) (Declaring (a - length d.operations - length (choices d))))) chosen
