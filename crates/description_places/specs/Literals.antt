-- Numbers that are written as literals.
use Rattle.std.specs.Prelude.{ℕ, Option, None, Some}
use Rattle.lisa_tree.specs.Expressions as exprs
use Rattle.lisa_tree.specs.Expressions.{ExprTree}

-- the number that a literal is
abbrev pub literal : ExprTree → Option ℕ
literal (exprs.Number v base) = Some v
literal _ = None
