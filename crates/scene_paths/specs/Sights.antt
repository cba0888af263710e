-- The instruction of which the operations on a path are parts.
use Rattle.std.specs.Prelude.{ℕ, Option, option_map}
use Rattle.lisa_tree.specs.Descriptions.{DescriptionTree}
use Rattle.lisa_meaning.specs.instruction_forms.Trees.{FormTree}
use Rattle.lisa_meaning.specs.lisa_forms.Choosing.{numbered_form}
use Rattle.lisa_meaning.specs.Scenes.{Scene}
use Rattle.scene_paths.specs.declared.sight.Sight.{Sight}
use Rattle.scene_paths.specs.declared.paths.Path.{Path, Occurrence}
use Rattle.scene_paths.specs.Lookups.{tree_of}
use Rattle.scene_paths.specs.Paths.{links_of}

abbrev pub sight_tree : Sight → DescriptionTree
sight_tree sight = tree_of sight.described.now

abbrev pub form_of : Sight → Option FormTree
form_of sight = option_map (numbered_form (sight_tree sight)) sight.form

-- where an operation runs, by its path
abbrev pub scene_at : Sight → Path → Scene
scene_at sight path = record { path = links_of (sight_tree sight) (form_of sight) path; form = form_of sight; word = sight.word }

-- where an occurrence runs, by its number
abbrev pub occurrence_scene : Sight → ℕ → Scene
occurrence_scene sight k = scene_at sight (Occurrence k)
