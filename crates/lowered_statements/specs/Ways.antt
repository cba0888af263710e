-- What statements are made of: pieces that read, assign, call, stall and flush.
use Rattle.std.specs.Prelude.{ℕ, List}
use Rattle.lisa_words.specs.declared.words.Kind.{Kind}
use Rattle.lisa_tree.specs.Expressions.{ExprTree}
use Rattle.step_program.specs.Programs.{Expr}
use Rattle.step_pieces.specs.Pieces.{Piece}
use Rattle.lowered_values.specs.Operands.{Operand}
use Rattle.lowered_values.specs.Computed.{Computed}
use Rattle.lowered_statements.specs.Scopes.{Scope}

-- expressions, by the number of the first temp
abbrev pub Reads : Type 0
Reads = Scope → ℕ → ExprTree → Computed

-- what gives a place an operand, by the place's kind
abbrev pub Puts : Type 0
Puts = Scope → (guard : Expr) → ℕ → ExprTree → (Kind → Operand) → Piece

-- what a name does: a child's, or a stage's
abbrev pub Guarded : Type 0
Guarded = (guard : Expr) → ℕ → List ℕ → Piece

-- Each piece is given the number of its first temp, and what it does is under a guard.
pub record Ways : Type 0 where
  pub reads : Reads
  pub puts : Puts
  -- by the child's name
  pub calls : Guarded
  -- by the stage's name
  pub stalls : Guarded
  pub flushes : Guarded
