-- What operations declare: names, and the operations that groups and instances choose among.
use Rattle.std.specs.Prelude.{ℕ, ◌+◌, Bool, true, false, List, [], ◌∷◌, ◌++◌, length, map, filter, not, take, Option, None, Some, cond, nat_eq, ◌&&◌, position, slice_get}
use Rattle.std.specs.List.{dedup}
use Rattle.lisa_tree.specs.Descriptions as trees
use Rattle.lisa_tree.specs.Descriptions.{DeclareTree, OperationTree, DescriptionTree}
use Rattle.lisa_tree.specs.declared.declared.What.{What}
use Rattle.lisa_tree.specs.declared.declared.What.TheVariants as whats
use Rattle.lisa_tree.specs.Same.{same_name}
use Rattle.lisa_tree.specs.Operations.{numbers_of, is_alias, declares_in}

-- a declared name: of a group or an instance with the number of what it chooses among, of a label, or a reference
pub record Entry : Type 0 where
  pub operation : ℕ
  pub name : List ℕ
  pub what : What

-- what a GROUP, or one name of an INSTANCE, chooses among, and which operation declares it
pub record Choice : Type 0 where
  pub operation : ℕ
  pub alternatives : List (List ℕ)

abbrev pub entry : ℕ → What → List ℕ → Entry
entry o what n = record { operation = o; name = n; what = what }

abbrev pub choice : ℕ → List (List ℕ) → Choice
choice o alternatives = record { operation = o; alternatives = alternatives }

abbrev pub choices_of : ℕ → DeclareTree → List Choice
choices_of o (trees.Group names alternatives) = choice o alternatives ∷ []
choices_of o (trees.Instance pairs) = map (λ pair. choice o (pair.1 ∷ [])) pairs
choices_of o (trees.Label names) = []
choices_of o (trees.Reference names) = []

abbrev pub instances : ℕ → ℕ → List (List ℕ × List ℕ) → List Entry
instances o c [] = []
instances o c (pair ∷ rest) = entry o (whats.Instance c) pair.0 ∷ instances o (c + 1) rest

-- the names of a declaration, where so many choices stand before it
abbrev pub entries_of : ℕ → ℕ → DeclareTree → List Entry
entries_of o c (trees.Group names alternatives) = map (entry o (whats.Group c)) names
entries_of o c (trees.Instance pairs) = instances o c pairs
entries_of o c (trees.Label names) = map (entry o whats.Label) names
entries_of o c (trees.Reference names) = map (entry o whats.Reference) names

abbrev pub choices_in : ℕ → List DeclareTree → List Choice
choices_in o [] = []
choices_in o (d ∷ rest) = choices_of o d ++ choices_in o rest

abbrev pub entries_in : ℕ → ℕ → List DeclareTree → List Entry
entries_in o c [] = []
entries_in o c (d ∷ rest) = entries_of o c d ++ entries_in o (c + length (choices_of o d)) rest

abbrev pub choices_from : ℕ → List OperationTree → List Choice
choices_from o [] = []
choices_from o (operation ∷ rest) = choices_in o (declares_in operation.sections) ++ choices_from (o + 1) rest

abbrev pub entries_from : ℕ → ℕ → List OperationTree → List Entry
entries_from o c [] = []
entries_from o c (operation ∷ rest) = entries_in o c (declares_in operation.sections) ++ entries_from (o + 1) (c + length (choices_in o (declares_in operation.sections))) rest

-- all choices, and all declared names, in source order
abbrev pub choices : DescriptionTree → List Choice
choices d = choices_from 0 d.operations

abbrev pub entries : DescriptionTree → List Entry
entries d = entries_from 0 0 d.operations

-- where the name that an operation declares stands among all declared names, the first one
abbrev pub declared_at : DescriptionTree → ℕ → List ℕ → Option ℕ
declared_at d o n = position (λ (e : Entry). nat_eq e.operation o && same_name n e.name) (entries d)

abbrev what_of : Option Entry → Option What
what_of None = None
what_of (Some e) = Some e.what

abbrev pub what_at : DescriptionTree → ℕ → Option What
what_at d i = what_of (slice_get (entries d) i)

abbrev pub is_reference : Option What → Bool
is_reference (Some whats.Reference) = true
is_reference _ = false

-- the operations that a choice has, by their numbers, and those of them that are no aliases
abbrev numbers_in_choice : DescriptionTree → Option Choice → List ℕ
numbers_in_choice d None = []
numbers_in_choice d (Some c) = numbers_of d c.alternatives

abbrev pub alternatives_at : DescriptionTree → ℕ → List ℕ
alternatives_at d c = numbers_in_choice d (slice_get (choices d) c)

abbrev pub plain_at : DescriptionTree → ℕ → List ℕ
plain_at d c = filter (λ o. not (is_alias d o)) (alternatives_at d c)

-- ---- the operations above one: those, no aliases, that list it in a group or an instance, each once

abbrev pub listings : ℕ → ℕ → List ℕ → List ℕ
listings p o [] = []
listings p o (x ∷ rest) = cond (nat_eq x o) (p ∷ listings p o rest) (listings p o rest)

-- once for each time that they list it, so that the times of each operation stand side by side
abbrev pub above_in : DescriptionTree → ℕ → List Choice → List ℕ
above_in d o [] = []
above_in d o (c ∷ rest) = cond (is_alias d c.operation) (above_in d o rest) (listings c.operation o (numbers_of d c.alternatives) ++ above_in d o rest)

abbrev pub above : DescriptionTree → ℕ → List ℕ
above d o = dedup nat_eq (above_in d o (choices d))

-- how many names the operations before one declare
abbrev pub entries_before : DescriptionTree → ℕ → ℕ
entries_before d o = length (entries_from 0 0 (take o d.operations))

-- the operation that declares a name
abbrev owner_of : Option Entry → ℕ
owner_of None = 0
owner_of (Some e) = e.operation

abbrev pub owner_at : DescriptionTree → ℕ → ℕ
owner_at d i = owner_of (slice_get (entries d) i)

abbrev name_in : Option Entry → Option (List ℕ)
name_in None = None
name_in (Some e) = Some e.name

abbrev pub entry_name_at : DescriptionTree → ℕ → Option (List ℕ)
entry_name_at d i = name_in (slice_get (entries d) i)
