-- Marks on references.
use Rattle.std.specs.Prelude.{◌≡◌, ℕ, Bool, List}
use Rattle.lisa_tree.specs.Descriptions.{DescriptionTree}
use Rattle.graph_paths.specs.Paths.{saw}
use Rattle.meant_declarations.specs.Lacking as declarations

-- marks tell which references have a name that some operation above their own lacks
abbrev pub AreLacking : DescriptionTree → List Bool → Type 0
AreLacking d marks = (i : ℕ) → saw marks i ≡ declarations.lacks d i
