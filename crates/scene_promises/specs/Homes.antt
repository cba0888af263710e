-- What a declared name stands for in a scene.
use Rattle.std.specs.Prelude.{ℕ, ◌≡◌, List, ◌∷◌, Some}
use Rattle.lisa_tree.specs.Descriptions.{DescriptionTree}
use Rattle.lisa_tree.specs.Declarations.{declared_at}
use Rattle.meant_declarations.specs.Meant.{MayMean}
use Rattle.lisa_meaning.specs.Scenes.{Link, Scene, at_path, home}
use Rattle.meaning_promises.specs.Running.{Runs}

-- The nearest operation on the path that declares the name and doesn't refer to one above: something runs there too, and its declaration is
-- one that the name may mean.
pub record HasHome (d : DescriptionTree) (scene : Scene) (n : List ℕ) (i : ℕ) : Type 0 where
  pub here : Link
  pub above : List Link
  pub is : home d n scene.path ≡ here ∷ above
  pub runs : Runs d (at_path scene (here ∷ above))
  pub number : ℕ
  pub declared : declared_at d here.operation n ≡ Some number
  pub means : MayMean d i number
