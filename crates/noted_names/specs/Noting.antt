-- What a description's noted names stand for.
use Rattle.std.specs.Prelude.{ℕ, List, Option}
use Rattle.lisa_tree.specs.declared.descriptions.Description.{Description}
use Rattle.lisa_tree.specs.Descriptions.{DescriptionTree, description_tree}
use Rattle.noted_names.specs.declared.noted.Noted.{Noted}
use Rattle.noted_names.specs.declared.places.Places.{Places}
use Rattle.noted_names.specs.Naming.{AreNoted, noted_at}

-- the description whose names they are
abbrev pub description_of : Noted → Description
description_of noted = noted.tables.globals.description.now

abbrev pub tree_of : Noted → DescriptionTree
tree_of noted = description_tree (description_of noted)

-- what is noted of a name in an operation
abbrev pub noted_in : Noted → ℕ → List ℕ → Option Places
noted_in noted o n = noted_at noted.memos.items o n

-- each name that stands in an operation where it is run, or that it declares, is noted there
abbrev pub NotesStanding : Noted → Type 0
NotesStanding noted = AreNoted (tree_of noted) noted.memos.items
