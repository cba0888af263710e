-- What names are in an operation.
use Rattle.std.specs.Prelude.{ℕ, ◌≡◌, List, Option, None, Some, IsSome, All, Contains, slice_get}
use Rattle.std.specs.Option.{option_and_then}
use Rattle.name_tables.specs.TableViews.{value_of}
use Rattle.lisa_tree.specs.declared.declared.Meaning.{Meaning}
use Rattle.lisa_tree.specs.Descriptions.{DescriptionTree}
use Rattle.lisa_tree.specs.Resources.{resource_at, stage_at}
use Rattle.lisa_tree.specs.Operations.{own_stage}
use Rattle.lisa_tree.specs.Declarations.{declared_at}
use Rattle.lisa_tree.specs.Meanings.{meaning_of}
use Rattle.noted_names.specs.declared.places.Places.{Places}
use Rattle.noted_names.specs.declared.memo.Memo.{Memo}
use Rattle.noted_names.specs.Memos.{AgreesWith, IsNoted, places}
use Rattle.noted_names.specs.Standing.{names_in}

-- among all declared names, and among the resources
abbrev pub places_in : DescriptionTree → ℕ → List ℕ → Places
places_in d o n = places (declared_at d o n) (resource_at d n)

abbrev pub means : Places → Meaning
means p = meaning_of p.first p.second

-- among the stages of the pipeline
abbrev pub stage_places : DescriptionTree → List ℕ → Places
stage_places d n = places (stage_at d n) None

-- each element is as its place says
abbrev pub EachIs : {X : Type 0} → (ℕ → X → Type 0) → List X → Type 0
EachIs {X} P xs = (i : ℕ) (x : X) → slice_get xs i ≡ Some x → P i x

-- a memo of an operation has what names are there
abbrev pub IsMemo : DescriptionTree → ℕ → Memo → Type 0
IsMemo d o memo = AgreesWith (places_in d o) memo.table

-- and each name that stands there
abbrev pub NotesAll : DescriptionTree → ℕ → Memo → Type 0
NotesAll d o memo = All (IsNoted memo.table) (names_in d o)

-- what is noted of a name in an operation
abbrev pub noted_at : List Memo → ℕ → List ℕ → Option Places
noted_at memos o n = option_and_then (λ memo. value_of memo.table n) (slice_get memos o)

-- each name that stands in an operation is noted there
abbrev pub AreNoted : DescriptionTree → List Memo → Type 0
AreNoted d memos = (o : ℕ) (n : List ℕ) → Contains (names_in d o) n → IsSome (noted_at memos o n)

abbrev pub IsOwn : DescriptionTree → ℕ → Option ℕ → Type 0
IsOwn d o stage = stage ≡ own_stage d o
