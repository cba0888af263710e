-- What an operation activates, and in which stages operations run.
use Rattle.std.specs.Prelude.{ℕ, ◌≡◌, ◌≤◌, ◌<◌, ◌↔◌, Bool, true, List, [], ◌∷◌, ◌++◌, Option, None, Some, length}
use Rattle.std.specs.Option.{option_or, option_to_list}
use Rattle.lisa_tree.specs.Activations as acts
use Rattle.lisa_tree.specs.Activations.{ActTree, ActTrees}
use Rattle.lisa_tree.specs.Descriptions.{DescriptionTree}
use Rattle.lisa_tree.specs.declared.declared.What.{What}
use Rattle.lisa_tree.specs.declared.declared.What.TheVariants as whats
use Rattle.lisa_tree.specs.Declarations.{declared_at, what_at, plain_at}
use Rattle.lisa_tree.specs.Operations.{number_of, sections_at, activation_in, own_stage}
use Rattle.graph_paths.specs.Paths.{is_in}
use Rattle.stage_checks.specs.Controls.{main_name}

-- ---- the groups and instances that an activation names

abbrev pub choice_of : Option What → Option ℕ
choice_of (Some (whats.Group c)) = Some c
choice_of (Some (whats.Instance c)) = Some c
choice_of _ = None

abbrev pub choice_at : DescriptionTree → Option ℕ → Option ℕ
choice_at d None = None
choice_at d (Some i) = choice_of (what_at d i)

-- the group or instance that the operation declares by this name
abbrev pub started : DescriptionTree → ℕ → List ℕ → Option ℕ
started d o n = choice_at d (declared_at d o n)

-- the names of all items in source order, of both branches of an `if`
abbrev mutual
  pub act_names : ActTree → List (List ℕ)
  act_names (acts.Start n) = n ∷ []
  act_names (acts.Choose test chosen) = acts_names chosen
  act_names (acts.ChooseElse test chosen other) = acts_names chosen ++ acts_names other

  pub acts_names : ActTrees → List (List ℕ)
  acts_names acts.End = []
  acts_names (acts.Then a rest) = act_names a ++ acts_names rest

abbrev pub activation_names : Option ActTrees → List (List ℕ)
activation_names None = []
activation_names (Some all) = acts_names all

abbrev pub choices_named : DescriptionTree → ℕ → List (List ℕ) → List ℕ
choices_named d o [] = []
choices_named d o (n ∷ rest) = option_to_list (started d o n) ++ choices_named d o rest

abbrev pub named_choices : DescriptionTree → ℕ → List ℕ
named_choices d o = choices_named d o (activation_names (activation_in (sections_at d o)))

-- ---- what runs where

-- An item of the activation names a choice that has the operation as an alternative, and no alias.
pub record Activates (d : DescriptionTree) (p o : ℕ) : Type 0 where
  pub choice : ℕ
  pub named : is_in choice (named_choices d p) ≡ true
  pub plain : is_in o (plain_at d choice) ≡ true

-- An operation runs in a stage, or in none, as some path of activations from `main` leads to it: in its own stage, else in that of what
-- activates it, else in none.
pub data RunsIn (d : DescriptionTree) : ℕ → Option ℕ → Type 0 where
  begins : {o : ℕ} {s : Option ℕ} → number_of d main_name ≡ Some o → own_stage d o ≡ s → RunsIn d o s
  goes : {p o : ℕ} {s t : Option ℕ} → RunsIn d p s → Activates d p o → option_or (own_stage d o) s ≡ t → RunsIn d o t

-- the latest stage in which an operation runs, or none where it runs in no stage at all or only outside of stages
abbrev pub IsLatest : DescriptionTree → ℕ → Option ℕ → Type 0
IsLatest d o None = (t : ℕ) → RunsIn d o (Some t) → ⊥
IsLatest d o (Some t) = RunsIn d o (Some t) × ((u : ℕ) → RunsIn d o (Some u) → u ≤ t)

abbrev pub AreLatest : DescriptionTree → (ℕ → Option ℕ) → Type 0
AreLatest d latest = (o : ℕ) → o < length d.operations → IsLatest d o (latest o)

-- the operations that run outside of stages
abbrev pub AreFree : DescriptionTree → (ℕ → Bool) → Type 0
AreFree d free = (o : ℕ) → o < length d.operations → (free o ≡ true) ↔ RunsIn d o None
