-- What names are worth at standpoints. On the way: what is asked here of a table of names follows from the counts of texts.
use Rattle.std.specs.Prelude.{ℕ, ◌≡◌, ◌+◌, ◌≤◌, true, List, [], ◌∷◌, Option, None, Some, sum_by}
use Rattle.std.specs.List.{AllByRecursion}
use Rattle.lisa_tree.specs.Expressions.{ExprTree}
use Rattle.lisa_tree.specs.Statements.{StmtTrees}
use Rattle.lisa_tree.specs.Descriptions.{DescriptionTree}
use Rattle.lisa_tree.specs.Operations.{number_of, sections_at, expression_in, behavior_in}
use Rattle.graph_paths.specs.Paths.{is_in}
use Rattle.stage_checks.specs.Controls.{main_name}
use Rattle.activation_trees.specs.Starting.{plain_named}
use Rattle.touch_promises.specs.lisa_meaning.Values.{Array, named_array}
use Rattle.lowered_edges.specs.lowered_resources.Reading.{cells_of}
use Rattle.lowered_edges.specs.lowered_behaviors.Standpoints.{Standpoint, running, alternatives}
use Rattle.module_sizes.specs.Costs.{Rates}
use Rattle.module_sizes.specs.Worths.{unit, Naming, value_worth, place_worth, statements_worth}

-- A standpoint that an operation has: from it up to `main`, each an alternative, and no alias, of a name that the next one declares. What isn't
-- there stands nowhere.
abbrev pub IsStood : DescriptionTree → Standpoint → Type 0
IsStood d [] = Unit {0}
IsStood d (here ∷ []) = number_of d main_name ≡ Some here.operation
IsStood d (here ∷ next ∷ above) = ((n : List ℕ) × (is_in here.operation (plain_named d next.operation n) ≡ true)) × IsStood d (next ∷ above)

-- ---- what operations are worth, by the names in them

abbrev pub read_worth : Naming → Option ExprTree → ℕ
read_worth names None = 0
read_worth names (Some e) = value_worth names e

abbrev pub assigned_worth : Naming → Option ExprTree → ℕ
assigned_worth names None = 0
assigned_worth names (Some e) = place_worth names e

abbrev pub run_worth : Naming → Option StmtTrees → ℕ
run_worth names None = 0
run_worth names (Some all) = statements_worth names all

module _ (d : DescriptionTree) (names : ℕ → Naming) where
  -- of the operation that runs at a standpoint
  abbrev pub read_at : Standpoint → ℕ
  read_at at = read_worth (names (running at)) (expression_in (sections_at d (running at)))

  abbrev pub assigned_at : Standpoint → ℕ
  assigned_at at = assigned_worth (names (running at)) (expression_in (sections_at d (running at)))

  abbrev pub run_at : Standpoint → ℕ
  run_at at = run_worth (names (running at)) (behavior_in (sections_at d (running at)))

  -- A name is worth a unit, and a child one for each alternative and what that is worth. So it is at each standpoint that operations have.
  pub record AreNamed (rates : Rates) (Stood : Standpoint → Type 0) : Type 0 where
    pub stood : (at : Standpoint) (n : List ℕ) → Stood at → AllByRecursion Stood (alternatives d n at)
    pub read : (at : Standpoint) (n : List ℕ) → Stood at → sum_by (λ a. unit + read_at a) (alternatives d n at) ≤ (names (running at)).read n
    pub assigned : (at : Standpoint) (n : List ℕ) → Stood at → sum_by (λ a. unit + assigned_at a) (alternatives d n at) ≤ (names (running at)).assigned n
    pub run : (at : Standpoint) (n : List ℕ) → Stood at → sum_by (λ a. unit + run_at a) (alternatives d n at) ≤ (names (running at)).run n
    pub one_read : (o : ℕ) (n : List ℕ) → unit ≤ (names o).read n
    pub one_assigned : (o : ℕ) (n : List ℕ) → unit ≤ (names o).assigned n
    pub element : (o : ℕ) (n : List ℕ) → rates.read (cells_of (named_array d o n)).array ≤ (names o).element n
    pub written : (o : ℕ) (n : List ℕ) (a : Array) → named_array d o n ≡ Some a → rates.write a.place ≤ (names o).written n
