-- How tightly the operators of two operands bind.
use Rattle.std.specs.Prelude.{ℕ}
use Rattle.lisa_words.specs.declared.binary.Operator.{Operator}
use Rattle.lisa_words.specs.declared.binary.Operator.TheVariants as operators

-- the level of an operator, from 1, the loosest, to 10, the tightest
abbrev pub level_of : Operator → ℕ
level_of operators.OneTrue = 1
level_of operators.BothTrue = 2
level_of operators.Or = 3
level_of operators.Xor = 4
level_of operators.And = 5
level_of operators.Equal = 6
level_of operators.Unequal = 6
level_of operators.Less = 7
level_of operators.LessEqual = 7
level_of operators.Greater = 7
level_of operators.GreaterEqual = 7
level_of operators.Left = 8
level_of operators.Right = 8
level_of operators.Add = 9
level_of operators.Sub = 9
level_of operators.Mul = 10
