-- Each occurrence is of an operation.
use Rattle.std.proofs.Common.{◌≡◌, ◌<◌, ◌+◌, ℕ, zero, suc, List, [], ◌∷◌, Option, None, Some, true, nat_eq, length, refl}
use Rattle.std.specs.List.{AllByRecursion}
use Rattle.std.proofs.lemmas.Bool.{eq-eqb, or_left, or_right}
use Rattle.lisa_tree.specs.Descriptions.{DescriptionTree}
use Rattle.graph_paths.specs.Paths.{is_in}
use Rattle.lisa_tree.specs.Operations.{number_of}
use Rattle.lisa_tree.specs.Declarations.{plain_at}
use Rattle.lisa_tree.specs.Paths.{node_count}
use Rattle.activation_trees.specs.stage_checks.Controls.{main_name}
use Rattle.activation_trees.proofs.stage_checks_proofs.Nodes.{number_within, plain_within}
use Rattle.activation_trees.specs.declared.parts.Occurrence.{Occurrence}
use Rattle.activation_trees.specs.Starting.{Activated, activation, alternatives, activated_by, activated, starts}
use Rattle.activation_trees.specs.Unfolding.{child, children, in_turn, unfolded, whole, firsts, occurrences}
use Rattle.activation_trees.proofs.Levels.{all_append, all_of_map}

all_in : (P : ℕ → Type 0) (xs : List ℕ) → ((b : ℕ) → is_in b xs ≡ true → P b) → AllByRecursion P xs
all_in P [] f = tt
all_in P (x ∷ xs) f = (f x (or_left (nat_eq x x) (is_in x xs) (eq-eqb x x refl)), all_in P xs (λ b e. f b (or_right (nat_eq b x) (is_in b xs) e)))

module _ (d : DescriptionTree) where
  abbrev pub IsThere : Occurrence → Type 0
  IsThere x = x.operation < length d.operations

  abbrev pub Activates : Activated → Type 0
  Activates a = a.operation < length d.operations

  alternatives_there : (s : _) → AllByRecursion Activates (alternatives d s)
  alternatives_there s = all_of_map Activates (activation s.by_root) (plain_at d s.choice) (all_in (λ b. b < length d.operations) (plain_at d s.choice) (plain_within d s.choice))

  activated_there : (all : List _) → AllByRecursion Activates (activated_by d all)
  activated_there [] = tt
  activated_there (s ∷ rest) = all_append Activates (alternatives d s) (activated_by d rest) (alternatives_there s) (activated_there rest)

  in_turn_there : (tree : ℕ → Occurrence → List Occurrence) → ((n : ℕ) (x : Occurrence) → IsThere x → AllByRecursion IsThere (tree n x))
      → (xs : List Occurrence) → AllByRecursion IsThere xs → (next : ℕ) → AllByRecursion IsThere (in_turn tree next xs)
  in_turn_there tree each [] h next = tt
  in_turn_there tree each (x ∷ xs) h next = all_append IsThere (tree next x) (in_turn tree (next + length (tree next x)) xs) (each next x h.0) (in_turn_there tree each xs h.1 (next + length (tree next x)))

  unfolded_there : (k n : ℕ) (x : Occurrence) → IsThere x → AllByRecursion IsThere (unfolded k d n x)
  unfolded_there zero n x h = tt
  unfolded_there (suc k) n x h = (
    h,
    in_turn_there (unfolded k d) (λ m y i. unfolded_there k m y i) (children d n x) (all_of_map IsThere (child d n x) (activated d x.operation) (activated_there (starts d x.operation))) (suc n),
  )

  first_there : (m : Option ℕ) → number_of d main_name ≡ m → AllByRecursion IsThere (firsts d m)
  first_there None e = tt
  first_there (Some o) e = (number_within d main_name o e, tt)

  pub all_there : AllByRecursion IsThere (occurrences d)
  all_there = in_turn_there (whole d) (λ n x h. unfolded_there (suc (node_count d)) n x h) (firsts d (number_of d main_name)) (first_there (number_of d main_name) refl) 0
