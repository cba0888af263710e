-- Activations as a graph. Its nodes are the operations and behind them the choices: an operation leads to the choices that its activation
-- names, and a choice to its alternatives that are no aliases.
use Rattle.std.specs.Prelude.{ℕ, ◌≡◌, ◌+◌, ◌-◌, Bool, false, List, [], ◌∷◌, length, Option, None, Some, cond, nat_lt, nat_eq, not, ◌&&◌, ◌⊎◌}
use Rattle.std.specs.Option.{is_some, option_or}
use Rattle.std.specs.Global.{Vec}
use Rattle.std.specs.Borrow.{Bor}
use Rattle.lisa_tree.specs.Descriptions.{DescriptionTree}
use Rattle.lisa_tree.specs.Declarations.{choices, plain_at}
use Rattle.graph_paths.specs.Paths.{is_in, targets, Leads, Reaches}
use Rattle.stage_checks.specs.Running.{named_choices}

abbrev pub node_count : DescriptionTree → ℕ
node_count d = length d.operations + length (choices d)

-- the names that references stand for
abbrev pub names_in : List (Bor (List ℕ)) → List (List ℕ)
names_in [] = []
names_in (n ∷ rest) = n.now ∷ names_in rest

-- the nodes of choices, as far as there are any
abbrev pub nodes_of : DescriptionTree → List ℕ → List ℕ
nodes_of d [] = []
nodes_of d (c ∷ rest) = cond (nat_lt c (length (choices d))) ((length d.operations + c) ∷ nodes_of d rest) (nodes_of d rest)

abbrev pub row_at : DescriptionTree → ℕ → List ℕ
row_at d a = cond (nat_lt a (length d.operations)) (nodes_of d (named_choices d a)) (plain_at d (a - length d.operations))

pub record IsGraph (d : DescriptionTree) (next : List (Vec ℕ)) : Type 0 where
  pub len : length next ≡ node_count d
  pub rows : (a : ℕ) → targets next a ≡ row_at d a

-- the edges that lead to what has no stage of its own
abbrev pub AreInner : (ℕ → Option ℕ) → List (Vec ℕ) → List (Vec ℕ) → Type 0
AreInner own next inner = (a b : ℕ) → is_in b (targets inner a) ≡ (is_in b (targets next a) && not (is_some (own b)))

abbrev pub IsFrom : List (Vec ℕ) → ℕ → ℕ → Type 0
IsFrom next start b = (b ≡ start) ⊎ Reaches next start b

abbrev pub is_stage : ℕ → Option ℕ → Bool
is_stage t None = false
is_stage t (Some s) = nat_eq t s

-- the nodes of a graph run in stages as the operations do; what has no stage of its own hands on that in which it runs
pub data Runs (next : List (Vec ℕ)) (own : ℕ → Option ℕ) (start : ℕ) : ℕ → Option ℕ → Type 0 where
  first : {b : ℕ} {s : Option ℕ} → b ≡ start → own b ≡ s → Runs next own start b s
  then : {a b : ℕ} {s t : Option ℕ} → Runs next own start a s → Leads next a b → option_or (own b) s ≡ t → Runs next own start b t
