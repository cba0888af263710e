-- Operands with operators between them, and the trees that they may be grouped to.
use Rattle.std.specs.Prelude.{◌≡◌, ℕ, List, [], ◌∷◌, Option, option_and_then}
use Rattle.lisa_words.specs.declared.binary.Operator.{Operator}
use Rattle.lisa_words.specs.Levels.{Level}
use Rattle.operator_levels.specs.Stacks.{Stack, pushed, finished}

pub data Item (Tree : Type 0) : Type 0 where
  Operand : Tree → Item Tree
  Between : Operator → Item Tree

-- an operand, and further ones, each with the operator before it
abbrev pub items : {Tree : Type 0} → Tree → List (Operator × Tree) → List (Item Tree)
items t [] = Operand t ∷ []
items t ((o, u) ∷ rest) = Operand t ∷ Between o ∷ items u rest

abbrev pub IsOperand : {Tree : Type 0} → List (Item Tree) → Tree → Type 0
IsOperand ts t = ts ≡ Operand t ∷ []

-- the items, grouped by the levels of their operators, are this tree
abbrev pub IsGrouped : {Tree : Type 0} → (Operator → Tree → Tree → Tree) → List (Item Tree) → Tree → Type 0
IsGrouped two ts x = Level IsOperand Between two 1 ts x

-- the tree that comes of an operand and further ones behind what waits
abbrev pub run : {Tree : Type 0} → (Operator → Tree → Tree → Tree) → (Tree → ℕ) → ℕ → Stack Tree → Tree → List (Operator × Tree) → Option Tree
run two depth limit stack t [] = finished two depth limit stack t
run two depth limit stack t ((o, u) ∷ rest) = option_and_then (λ s. run two depth limit s u rest) (pushed two depth limit stack t o)
