-- What is done in a scene where calls are so many levels deep.
use Rattle.std.specs.Prelude.{ℕ, ◌≡◌, ◌≤◌, ◌+◌, ◌*◌}
use Rattle.lisa_tree.specs.Descriptions.{DescriptionTree}
use Rattle.typed_values.specs.Effects.{Doing}
use Rattle.scene_paths.specs.lisa_meaning.Scenes.{Scene, at_path}
use Rattle.scene_paths.specs.lisa_meaning.Moments.{Moment}
use Rattle.scene_paths.specs.lisa_meaning.Effects.{PutBelow, put_within, doing, run_within}
use Rattle.moment_stores.specs.declared.store.Store.{Store}
use Rattle.moment_stores.specs.Stores.{description_of, local_count, local_room}
use Rattle.behavior_runs.specs.Rooms.{most_locals}

-- EXPRESSIONS of children as places, so many levels deep
abbrev pub put_below_within : ℕ → DescriptionTree → Scene → PutBelow
put_below_within levels d scene = λ path place given m. put_within levels d (at_path scene path) place given m

abbrev pub doing_within : ℕ → DescriptionTree → Scene → Doing Moment
doing_within levels d scene = doing (λ path m. run_within levels d (at_path scene path) m) d scene

-- the store is the description's, and there is room for so many locals and for so many levels of calls
pub record HasRoom (d : DescriptionTree) (levels locals : ℕ) (store : Store) : Type 0 where
  pub description : description_of store ≡ d
  pub room : local_count store + locals + levels * most_locals d ≤ local_room store
