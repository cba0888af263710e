-- Expressions as plain trees, without where they lie in memory.
use Rattle.std.specs.Prelude.{ℕ, suc, max, List}
use Rattle.lisa_tree.specs.declared.tokens.Base.{Base}
use Rattle.lisa_tree.specs.declared.tokens.Shape.{Shape}
use Rattle.lisa_words.specs.declared.binary.Operator.{Operator}
use Rattle.lisa_tree.specs.declared.expressions.Expr.{Expr}
use Rattle.lisa_tree.specs.declared.expressions.Expr.TheVariants as exprs

pub data ExprTree : Type 0 where
  Number : ℕ → Base → ExprTree
  Named : List ℕ → ExprTree
  Element : List ℕ → ExprTree → ExprTree
  Input : List ℕ → ExprTree
  Output : List ℕ → ExprTree
  -- pipeline, the stages before and after, field
  Boundary : List ℕ → List ℕ → List ℕ → List ℕ → ExprTree
  Decoded : ExprTree
  Cast : Shape → ExprTree → ExprTree
  Complement : ExprTree → ExprTree
  Negate : ExprTree → ExprTree
  Two : Operator → ExprTree → ExprTree → ExprTree
  Choose : ExprTree → ExprTree → ExprTree → ExprTree

-- the plain tree that an expression stands for
abbrev pub expr_tree : Expr → ExprTree
expr_tree (exprs.Number value base) = Number value base
expr_tree (exprs.Named name) = Named name
expr_tree (exprs.Element' name p index) = Element name (expr_tree index)
expr_tree (exprs.Input field) = Input field
expr_tree (exprs.Output field) = Output field
expr_tree (exprs.Boundary b) = Boundary b.value.pipe b.value.before b.value.after b.value.field
expr_tree exprs.Decoded = Decoded
expr_tree (exprs.Cast' shape p a) = Cast shape (expr_tree a)
expr_tree (exprs.Complement' p a) = Complement (expr_tree a)
expr_tree (exprs.Negate' p a) = Negate (expr_tree a)
expr_tree (exprs.Two' operator p a q b) = Two operator (expr_tree a) (expr_tree b)
expr_tree (exprs.Choose' p c q a r b) = Choose (expr_tree c) (expr_tree a) (expr_tree b)

-- a leaf has depth 1, and any other expression one more than the deepest of its parts
abbrev pub expr_depth : ExprTree → ℕ
expr_depth (Element name index) = suc (expr_depth index)
expr_depth (Cast shape a) = suc (expr_depth a)
expr_depth (Complement a) = suc (expr_depth a)
expr_depth (Negate a) = suc (expr_depth a)
expr_depth (Two operator a b) = suc (max (expr_depth a) (expr_depth b))
expr_depth (Choose c a b) = suc (max (expr_depth c) (max (expr_depth a) (expr_depth b)))
expr_depth _ = 1
