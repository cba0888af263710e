-- The levels of operators over any kind of operand and any kind of token: each level groups to the left.
use Rattle.std.specs.Prelude.{◌≡◌, ℕ, suc, List, ◌∷◌, ◌++◌}
use Rattle.lisa_words.specs.declared.binary.Operator.{Operator}
use Rattle.lisa_words.specs.Operators.{level_of}

-- A list of tokens spells a tree at a level, where `Operand` says which lists spell an operand, `sign` gives the token of an
-- operator, and `two` makes a tree of two. An operand stands at level 11, above all operators.
pub data Level {Tok Tree : Type 0} (Operand : List Tok → Tree → Type 0) (sign : Operator → Tok) (two : Operator → Tree → Tree → Tree) : ℕ → List Tok → Tree → Type 0 where
  operand : {ts : List Tok} {t : Tree} → Operand ts t → Level Operand sign two 11 ts t
  -- the left operand is of the operator's own level, and the right one is of the next
  pair : (o : Operator) {l : ℕ} {xs ys ts : List Tok} {a b t : Tree} → l ≡ level_of o → Level Operand sign two l xs a → Level Operand sign two (suc l) ys b
      → ts ≡ xs ++ (sign o ∷ ys) → t ≡ two o a b → Level Operand sign two l ts t
  -- what stands at a level stands at each looser one
  tighter : {l : ℕ} {ts : List Tok} {t : Tree} → Level Operand sign two (suc l) ts t → Level Operand sign two l ts t
