-- What stands behind a declared name where it is called, read, assigned, activated or coded.
use Rattle.std.specs.Prelude.{◌≡◌, ◌<◌, ℕ, true, false, List, None, Some, length, slice_get}
use Rattle.lisa_tree.specs.Descriptions.{DescriptionTree}
use Rattle.description_places.specs.Scopes.{Scope, local_named}
use Rattle.lisa_tree.specs.Operations.{sections_at, coding_in, own_stage, is_root}
use Rattle.lisa_tree.specs.Declarations.{Entry, entries, declared_at, plain_at}
use Rattle.graph_paths.specs.Paths.{is_in}
use Rattle.lisa_machine.specs.coded_names.Codings.{in_coding, names_instructions}
use Rattle.lisa_machine.specs.meant_declarations.Meant.{MayMean}
use Rattle.use_promises.specs.Meant.{ChoosesFrom}

-- an operation that has neither a stage of its own nor the root
pub record RunsInPlace (d : DescriptionTree) (o : ℕ) : Type 0 where
  pub no_stage : own_stage d o ≡ None
  pub no_root : is_root d o ≡ false

-- the name stands in the coding of the operation that declares it
abbrev pub IsCoded : DescriptionTree → Entry → Type 0
IsCoded d e = in_coding e.name (coding_in (sections_at d e.operation)) ≡ true

-- what is chosen among several operations that are no aliases is decided by the coding
abbrev pub IsDecided : DescriptionTree → Entry → ℕ → Type 0
IsDecided d e c = 1 < length (plain_at d c) → IsCoded d e

-- it is the root's group, in the root
abbrev pub NamesRootGroup : DescriptionTree → Entry → Type 0
NamesRootGroup d e = names_instructions e.name (coding_in (sections_at d e.operation)) ≡ true

-- a group or instance that runs where it is used: each of its operations that is no alias does, one of several is decided, and it isn't the
-- root's group in the root
pub record MayRun (d : DescriptionTree) (e : Entry) (c : ℕ) : Type 0 where
  pub operations : (o : ℕ) → is_in o (plain_at d c) ≡ true → RunsInPlace d o
  pub decided : IsDecided d e c
  pub other : NamesRootGroup d e → ⊥

-- each group and instance that a declared name may mean runs where the name is used
abbrev pub ChildrenMayRun : DescriptionTree → ℕ → Type 0
ChildrenMayRun d i = (j c : ℕ) (e : Entry) → MayMean d i j → slice_get (entries d) j ≡ Some e → ChoosesFrom e c → MayRun d e c

-- a declaration is a group or an instance
abbrev pub IsChildEntry : Entry → Type 0
IsChildEntry e = (c : ℕ) × ChoosesFrom e c

-- what is called is a declared name, which may mean groups and instances alone
pub record IsCallable (d : DescriptionTree) (o : ℕ) (scope : Scope) (n : List ℕ) : Type 0 where
  pub no_local : local_named n scope ≡ None
  pub number : ℕ
  pub declared : declared_at d o n ≡ Some number
  pub children : (j : ℕ) (e : Entry) → MayMean d number j → slice_get (entries d) j ≡ Some e → IsChildEntry e
  pub run : ChildrenMayRun d number

-- the name of a group or instance that the operation declares
pub record DeclaresChild (d : DescriptionTree) (o : ℕ) (n : List ℕ) : Type 0 where
  pub number : ℕ
  pub declared : declared_at d o n ≡ Some number
  pub entry : Entry
  pub is : slice_get (entries d) number ≡ Some entry
  pub choice : ℕ
  pub chooses : ChoosesFrom entry choice

-- an item of an activation
pub record IsStartable (d : DescriptionTree) (o : ℕ) (n : List ℕ) : Type 0 where
  pub child : DeclaresChild d o n
  pub decided : IsDecided d child.entry child.choice

-- a child that stands in a coding: its operations run in place
pub record IsOperand (d : DescriptionTree) (o : ℕ) (n : List ℕ) : Type 0 where
  pub child : DeclaresChild d o n
  pub operations : (p : ℕ) → is_in p (plain_at d child.choice) ≡ true → RunsInPlace d p

-- the group of a root: none of its operations has a root
pub record IsRootGroup (d : DescriptionTree) (o : ℕ) (n : List ℕ) : Type 0 where
  pub child : DeclaresChild d o n
  pub operations : (p : ℕ) → is_in p (plain_at d child.choice) ≡ true → is_root d p ≡ false

-- a child that stands in a syntax: not the root's group in the root
pub record IsShowable (d : DescriptionTree) (o : ℕ) (n : List ℕ) : Type 0 where
  pub child : DeclaresChild d o n
  pub other : NamesRootGroup d child.entry → ⊥
