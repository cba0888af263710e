-- Locals in scope, as they stand and as they are at a moment.
use Rattle.std.specs.Prelude.{◌≡◌, [], ◌∷◌}
use Rattle.lisa_tree.specs.Statements.{StmtTrees, End, Then}
use Rattle.description_places.specs.Scopes.{Scope}
use Rattle.description_places.specs.Places.{after}
use Rattle.typed_values.specs.Effects.{Locals}
use Rattle.meaning_promises.specs.Typing.{IsOfType}

-- the locals in scope behind statements
abbrev pub all_after : Scope → StmtTrees → Scope
all_after scope End = scope
all_after scope (Then s rest) = all_after (after scope s) rest

-- the locals at a moment are those of a scope: the same names in the same order, each with a word of its type
abbrev pub AreLocalsOf : Scope → Locals → Type 0
AreLocalsOf [] [] = Unit {0}
AreLocalsOf [] (x ∷ rest) = ⊥
AreLocalsOf (s ∷ scope) [] = ⊥
AreLocalsOf (s ∷ scope) (x ∷ rest) = (x.0 ≡ s.0) × IsOfType s.1.shape x.1 × AreLocalsOf scope rest
