-- What an operation activates.
use Rattle.std.specs.Prelude.{ℕ, zero, suc, ◌≡◌, Bool, List, [], ◌∷◌, ◌++◌, Option, None, Some, map, option_map}
use Rattle.std.specs.Option.{option_to_list}
use Rattle.std.specs.Global.{Vec}
use Rattle.lisa_tree.specs.Descriptions.{CodingTree, DescriptionTree}
use Rattle.lisa_tree.specs.Operations.{sections_at, coding_in, activation_in}
use Rattle.lisa_tree.specs.Declarations.{plain_at}
use Rattle.lisa_machine.specs.coded_names.Codings.{names_instructions}
use Rattle.stage_checks.specs.Running.{started, activation_names}
use Rattle.activation_trees.specs.declared.parts.Start.{Start}

-- an item that names a group or an instance, and whether it names the root's group
abbrev pub start : List ℕ → Option CodingTree → ℕ → Start
start n coding c = record { choice = c; by_root = names_instructions n coding }

abbrev pub start_of : DescriptionTree → ℕ → List ℕ → Option Start
start_of d o n = option_map (start n (coding_in (sections_at d o))) (started d o n)

abbrev pub starts_named : DescriptionTree → ℕ → List (List ℕ) → List Start
starts_named d o [] = []
starts_named d o (n ∷ rest) = option_to_list (start_of d o n) ++ starts_named d o rest

-- the items of an operation's activation in source order, those of both branches of an `if`
abbrev pub starts : DescriptionTree → ℕ → List Start
starts d o = starts_named d o (activation_names (activation_in (sections_at d o)))

-- an operation that another one activates, and whether by the name of the root's group
pub record Activated : Type 0 where
  pub operation : ℕ
  pub by_root : Bool

abbrev pub activation : Bool → ℕ → Activated
activation by_root o = record { operation = o; by_root = by_root }

-- the alternatives of what an item names, as listed, without aliases
abbrev pub alternatives : DescriptionTree → Start → List Activated
alternatives d s = map (activation s.by_root) (plain_at d s.choice)

abbrev pub activated_by : DescriptionTree → List Start → List Activated
activated_by d [] = []
activated_by d (s ∷ rest) = alternatives d s ++ activated_by d rest

-- each alternative of each item
abbrev pub activated : DescriptionTree → ℕ → List Activated
activated d o = activated_by d (starts d o)

-- ---- the names by which an operation activates

-- the alternatives of what a name stands for, without aliases
abbrev pub plain_of : DescriptionTree → Option ℕ → List ℕ
plain_of d None = []
plain_of d (Some c) = plain_at d c

abbrev pub plain_named : DescriptionTree → ℕ → List ℕ → List ℕ
plain_named d o n = plain_of d (started d o n)

-- each name once for each of these
abbrev pub names_by : DescriptionTree → ℕ → List (List ℕ) → List (List ℕ)
names_by d o [] = []
names_by d o (n ∷ rest) = map (λ _. n) (plain_named d o n) ++ names_by d o rest

-- the names by which what is `activated` is activated, one for each, in the same order
abbrev pub activating_names : DescriptionTree → ℕ → List (List ℕ)
activating_names d o = names_by d o (activation_names (activation_in (sections_at d o)))

-- ---- a table of them

abbrev pub row_at : List (Vec Start) → ℕ → List Start
row_at [] o = []
row_at (row ∷ rows) zero = row.items
row_at (row ∷ rows) (suc o) = row_at rows o

abbrev pub AreStarts : DescriptionTree → List (Vec Start) → Type 0
AreStarts d rows = (o : ℕ) → row_at rows o ≡ starts d o
