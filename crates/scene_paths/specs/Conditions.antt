-- The conditions of activations, by operation.
use Rattle.std.specs.Prelude.{List, map}
use Rattle.std.specs.Borrow.{Bor}
use Rattle.std.specs.Global.{Vec}
use Rattle.lisa_tree.specs.declared.expressions.Expr.{Expr}
use Rattle.lisa_tree.specs.Expressions.{ExprTree, expr_tree}
use Rattle.lisa_tree.specs.Descriptions.{OperationTree}
use Rattle.lisa_tree.specs.Operations.{activation_in}
use Rattle.lisa_meaning.specs.Cores.{conditions_in}

abbrev pub expressions_of : List (Bor Expr) → List ExprTree
expressions_of all = map (λ e. expr_tree e.now) all

abbrev pub rows_of : List (Vec (Bor Expr)) → List (List ExprTree)
rows_of rows = map (λ row. expressions_of row.items) rows

abbrev pub conditions_of : OperationTree → List ExprTree
conditions_of o = conditions_in (activation_in o.sections)

abbrev pub all_conditions : List OperationTree → List (List ExprTree)
all_conditions operations = map conditions_of operations
