-- Paths as lists of links.
use Rattle.std.specs.Prelude.{ℕ, List, [], ◌∷◌, Option, None, Some, filter_map}
use Rattle.lisa_tree.specs.Descriptions.{DescriptionTree}
use Rattle.lisa_meaning.specs.instruction_forms.Trees.{FormTree}
use Rattle.lisa_meaning.specs.Scenes.{Link, link, line, occurrence_link}
use Rattle.scene_paths.specs.declared.paths.Here.{Here}
use Rattle.scene_paths.specs.declared.paths.Path.{Path, Occurrence, Alone, Child'}
use Rattle.scene_paths.specs.Parts.{part_trees}

abbrev pub link_of : Here → Link
link_of here = link here.operation (part_trees here.part)

-- an occurrence with what is above it
abbrev pub occurrence_links : DescriptionTree → Option FormTree → ℕ → List Link
occurrence_links d form k = filter_map (occurrence_link d form) (line d k)

-- a path, where the word has this form
abbrev pub links_of : DescriptionTree → Option FormTree → Path → List Link
links_of d form (Occurrence k) = occurrence_links d form k
links_of d form (Alone o) = link o None ∷ []
links_of d form (Child' here p above) = link_of here ∷ links_of d form above

abbrev pub links_in : DescriptionTree → Option FormTree → Option Path → List Link
links_in d form None = []
links_in d form (Some path) = links_of d form path

abbrev pub numbered_links : DescriptionTree → Option FormTree → Option ℕ → List Link
numbered_links d form None = []
numbered_links d form (Some k) = occurrence_links d form k

abbrev pub first_link : List Link → Option Link
first_link [] = None
first_link (here ∷ above) = Some here
