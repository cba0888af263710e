-- What ends, and what has to do with a stage.
use Rattle.std.specs.Prelude.{ℕ, ◌≡◌, ◌≢◌, ◌≤◌, ◌<◌, true, List, codes, Some, slice_get}
use Rattle.lisa_tree.specs.Descriptions.{DescriptionTree}
use Rattle.lisa_tree.specs.Operations.{name_at}
use Rattle.lisa_tree.specs.Declarations.{Entry, entries, alternatives_at}
use Rattle.lisa_tree.specs.Paths.{node_count}
use Rattle.graph_paths.specs.Paths.{is_in}
use Rattle.description_places.specs.Places.{Place, ReadsInput, ReadsOutput, ReadsDecoded, WritesOutput}
use Rattle.meant_declarations.specs.Meant.{MayMean}
use Rattle.use_promises.specs.Meant.{ChoosesFrom}
use Rattle.use_promises.specs.Using.{RunsInPlace}
use Rattle.lisa_meaning.specs.Scenes.{Scene}
use Rattle.meaning_promises.specs.Running.{HasChild}

-- Ranks of operations. They fall from the one that declares a name to all that the name may choose, directly or through references.
pub record RunRanks (d : DescriptionTree) : Type 0 where
  pub rank : ℕ → ℕ
  pub low : (o : ℕ) → rank o ≤ node_count d
  pub falls : (i j c o : ℕ) (e f : Entry) → slice_get (entries d) i ≡ Some e → MayMean d i j → slice_get (entries d) j ≡ Some f → ChoosesFrom f c → is_in o (alternatives_at d c) ≡ true → rank o < rank e.operation

-- what names the boundaries beside the own stage, or whether the word is an instruction
pub data IsOfOwnStage : Place → Type 0 where
  input : (field : List ℕ) → IsOfOwnStage (ReadsInput field)
  output : (field : List ℕ) → IsOfOwnStage (WritesOutput field)
  output_read : (field : List ℕ) → IsOfOwnStage (ReadsOutput field)
  decoded : IsOfOwnStage ReadsDecoded

-- the child that a name has in a scene runs in place, and isn't `main`
pub record ChildIsInPlace (d : DescriptionTree) (scene : Scene) (n : List ℕ) (child : HasChild d scene n) : Type 0 where
  pub runs : RunsInPlace d child.here.operation
  pub not_main : name_at d child.here.operation ≢ codes "main"
