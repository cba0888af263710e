-- What a name stands for in an operation, locals aside.
use Rattle.std.specs.Prelude.{ℕ, List, Option, None, Some}
use Rattle.lisa_tree.specs.Descriptions.{DescriptionTree}
use Rattle.lisa_tree.specs.declared.declared.Meaning.{Meaning}
use Rattle.lisa_tree.specs.declared.declared.Meaning.TheVariants as meanings
use Rattle.lisa_tree.specs.Resources.{resource_at}
use Rattle.lisa_tree.specs.Declarations.{declared_at}

-- a declared name goes before a resource; in an accepted description no name is both
abbrev pub meaning_of : Option ℕ → Option ℕ → Meaning
meaning_of (Some i) resource = meanings.Declared i
meaning_of None (Some k) = meanings.Resource k
meaning_of None None = meanings.Nothing

abbrev pub meaning : DescriptionTree → ℕ → List ℕ → Meaning
meaning d o n = meaning_of (declared_at d o n) (resource_at d n)
