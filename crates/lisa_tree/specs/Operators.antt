-- The signs of the operators of two operands.
use Rattle.lisa_tree.specs.declared.tokens.Sign.{Sign}
use Rattle.lisa_tree.specs.declared.tokens.Sign.TheVariants as signs
use Rattle.lisa_words.specs.declared.binary.Operator.{Operator}
use Rattle.lisa_words.specs.declared.binary.Operator.TheVariants as operators

abbrev pub sign_of : Operator → Sign
sign_of operators.OneTrue = signs.OrOr
sign_of operators.BothTrue = signs.AndAnd
sign_of operators.Or = signs.Or
sign_of operators.Xor = signs.Caret
sign_of operators.And = signs.And
sign_of operators.Equal = signs.EqualEqual
sign_of operators.Unequal = signs.NotEqual
sign_of operators.Less = signs.Less
sign_of operators.LessEqual = signs.LessEqual
sign_of operators.Greater = signs.Greater
sign_of operators.GreaterEqual = signs.GreaterEqual
sign_of operators.Left = signs.ShiftLeft
sign_of operators.Right = signs.ShiftRight
sign_of operators.Add = signs.Plus
sign_of operators.Sub = signs.Minus
sign_of operators.Mul = signs.Star
