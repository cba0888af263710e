-- Expressions whose names are resolved to places, as plain trees, without where they lie in memory.
use Rattle.std.specs.Prelude.{ℕ}
use Rattle.lisa_tree.specs.declared.tokens.Shape.{Shape}
use Rattle.lisa_words.specs.declared.binary.Operator.{Operator}
use Rattle.behavior_plans.specs.declared.terms.Term.{Term}
use Rattle.behavior_plans.specs.declared.terms.Term.TheVariants as terms

pub data TermTree : Type 0 where
  Number : ℕ → TermTree
  -- a register as it stands, and as the edge began
  Register : ℕ → TermTree
  Kept : ℕ → TermTree
  Pin : ℕ → TermTree
  Decoded : TermTree
  -- by its slot
  Local : ℕ → TermTree
  -- of this type: the array, its last index, and the index
  Element : Shape → ℕ → ℕ → TermTree → TermTree
  -- of this type: a field of a boundary as the edge began, by its place among those of all boundaries
  Input : Shape → ℕ → TermTree
  Cast : Shape → TermTree → TermTree
  Complement : TermTree → TermTree
  Negate : TermTree → TermTree
  Two : Operator → TermTree → TermTree → TermTree
  Choose : TermTree → TermTree → TermTree → TermTree

-- the plain tree that a term stands for
abbrev pub term_tree : Term → TermTree
term_tree (terms.Number value) = Number value
term_tree (terms.Register place) = Register place
term_tree (terms.Kept place) = Kept place
term_tree (terms.Pin place) = Pin place
term_tree terms.Decoded = Decoded
term_tree (terms.Local slot) = Local slot
term_tree (terms.Element' shape array last p index) = Element shape array last (term_tree index)
term_tree (terms.Input shape place) = Input shape place
term_tree (terms.Cast' shape p a) = Cast shape (term_tree a)
term_tree (terms.Complement' p a) = Complement (term_tree a)
term_tree (terms.Negate' p a) = Negate (term_tree a)
term_tree (terms.Two' operator p a q b) = Two operator (term_tree a) (term_tree b)
term_tree (terms.Choose' p c q a r b) = Choose (term_tree c) (term_tree a) (term_tree b)
