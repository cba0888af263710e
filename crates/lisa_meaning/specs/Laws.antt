-- What holds of the meaning of descriptions.
use Rattle.std.specs.Prelude.{ℕ, suc, ◌≡◌, ◌<◌, ◌≤◌, Bool, true, ◌||◌, List, [], ◌∷◌, Some, map, slice_get}
use Rattle.std.specs.List.{AllByRecursion}
use Rattle.lisa_tree.specs.Expressions.{ExprTree}
use Rattle.lisa_tree.specs.Descriptions.{DescriptionTree}
use Rattle.lisa_forms.specs.activation_trees.declared.parts.Occurrence.{Occurrence}
use Rattle.lisa_forms.specs.activation_trees.Unfolding.{occurrences}
use Rattle.lisa_forms.specs.description_sizes.Texts.{levels}
use Rattle.pipeline_time.specs.Acts.{Node}
use Rattle.pipeline_time.specs.Cores.{Core, all_nodes}
use Rattle.pipeline_time.specs.Sound.{NamesEarlier}
use Rattle.lisa_meaning.specs.Scenes.{Scene, scene_of}
use Rattle.lisa_meaning.specs.Moments.{Moment}
use Rattle.lisa_meaning.specs.Values.{value_within, value_of}
use Rattle.lisa_meaning.specs.Effects.{Given, put_within, run_within, run_behavior}
use Rattle.lisa_meaning.specs.Trees.{level_of_stage}
use Rattle.lisa_meaning.specs.Cores.{is_root_at, behave, core_of}

-- an occurrence as both lists have it: its number, the level of its activator, its own, and whether it is past the root
pub record Listed : Type 0 where
  pub number : ℕ
  pub above : ℕ
  pub level : ℕ
  pub past : Bool

abbrev pub node_listed : Node → Listed
node_listed node = record { number = node.number; above = node.above; level = node.level; past = node.past }

abbrev pub occurrence_listed : ℕ → Occurrence → Listed
occurrence_listed k x = record { number = k; above = level_of_stage x.from; level = level_of_stage x.stage; past = x.past_root }

-- numbered from a number on
abbrev pub listed_from : ℕ → List Occurrence → List Listed
listed_from k [] = []
listed_from k (x ∷ rest) = occurrence_listed k x ∷ listed_from (suc k) rest

-- The nodes of the tree are the occurrences, in their order.
abbrev pub TreesAreOccurrences : DescriptionTree → Type 0
TreesAreOccurrences d = map node_listed (all_nodes (core_of d)) ≡ listed_from 0 (occurrences d)

-- ---- what time asks of them

-- it runs in no earlier stage than its activator, and in one of the stages or in none
pub record IsOnward {R M : Type 0} (core : Core R M) (node : Node) : Type 0 where
  pub ordered : node.above ≤ node.level
  pub within : node.level ≤ core.stages

abbrev pub LevelsGoForward : DescriptionTree → Type 0
LevelsGoForward d = AllByRecursion (IsOnward (core_of d)) (all_nodes (core_of d))

-- only an instruction chooses what is past the root
abbrev pub IsChosenDecoded : {R M : Type 0} → Core R M → Node → Type 0
IsChosenDecoded core node = node.past ≡ true → (word : ℕ) → core.chooses node.number word ≡ true → core.decodes word ≡ true

abbrev pub InstructionsChoose : DescriptionTree → Type 0
InstructionsChoose d = AllByRecursion (IsChosenDecoded (core_of d)) (all_nodes (core_of d))

-- the occurrence of this number is the root, or is past it
abbrev pub IsInside : DescriptionTree → ℕ → Type 0
IsInside d p = (y : Occurrence) × (slice_get (occurrences d) p ≡ Some y) × ((y.past_root || is_root_at d p) ≡ true)

-- past the root stands only what the root activates, and what is activated there
abbrev pub PastIsInside : DescriptionTree → Type 0
PastIsInside d = (k : ℕ) (x : Occurrence) → slice_get (occurrences d) k ≡ Some x → x.past_root ≡ true → (p : ℕ) × (x.parent ≡ Some p) × IsInside d p

-- One occurrence may be the root, and the level of the root is its level, where there are stages.
pub record RootIsOne {R M : Type 0} (core : Core R M) : Type 0 where
  pub number : ℕ
  pub one : (k : ℕ) → core.is_root k ≡ true → k ≡ number
  pub level_is : AllByRecursion (λ node. core.is_root node.number ≡ true → 0 < core.stages → core.root_level ≡ Some node.level) (all_nodes core)
  pub within : (level : ℕ) → core.root_level ≡ Some level → (0 < core.stages) × (level ≤ core.stages)

-- the stages that the BEHAVIOR of an occurrence stalls, and those that it flushes, are earlier than the one in which it runs
pub record ControlsEarlier (d : DescriptionTree) (k : ℕ) (x : Occurrence) : Type 0 where
  pub stalls : (word : ℕ) (m : Moment) → NamesEarlier (level_of_stage x.stage) m.stalled (behave d k word m).stalled
  pub flushes : (word : ℕ) (m : Moment) → NamesEarlier (level_of_stage x.stage) m.flushed (behave d k word m).flushed

abbrev pub ControlsGoBack : DescriptionTree → Type 0
ControlsGoBack d = (k : ℕ) (x : Occurrence) → slice_get (occurrences d) k ≡ Some x → ControlsEarlier d k x

-- Behaviours take back no stall and no flush. What is named counts for no level.
abbrev pub ControlsAreAdded : DescriptionTree → Type 0
ControlsAreAdded d = (k word : ℕ) (m : Moment) → NamesEarlier 0 m.stalled (behave d k word m).stalled × NamesEarlier 0 m.flushed (behave d k word m).flushed

-- Where so many levels are allowed, more change nothing of what is read, assigned and run in a scene.
pub record LevelsSuffice (d : DescriptionTree) (scene : Scene) : Type 0 where
  pub values : (more : ℕ) (m : Moment) (e : ExprTree) → levels d ≤ more → value_within more d scene m e ≡ value_of d scene m e
  pub puts : (more : ℕ) (m : Moment) (target : ExprTree) (given : Given) → levels d ≤ more → put_within more d scene target given m ≡ put_within (levels d) d scene target given m
  pub runs : (more : ℕ) (m : Moment) → levels d ≤ more → run_within more d scene m ≡ run_behavior d scene m

-- in the scene of each occurrence, whatever its word
abbrev pub OccurrencesEnd : DescriptionTree → Type 0
OccurrencesEnd d = (k word : ℕ) (x : Occurrence) → slice_get (occurrences d) k ≡ Some x → LevelsSuffice d (scene_of d k word)
