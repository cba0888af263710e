-- What is shared by all that a declared name may mean.
use Rattle.std.specs.Prelude.{ℕ, ◌≡◌, [], Some}
use Rattle.lisa_tree.specs.declared.tokens.Shape.{Shape}
use Rattle.lisa_tree.specs.Expressions.{ExprTree}
use Rattle.lisa_tree.specs.Descriptions.{DescriptionTree}
use Rattle.lisa_tree.specs.Operations.{sections_at, expression_in}
use Rattle.description_types.specs.Types.{Types, type_of}

-- an operation has an EXPRESSION of this type
pub record Expresses (known : Types) (d : DescriptionTree) (o : ℕ) (s : Shape) : Type 0 where
  pub expression : ExprTree
  pub is : expression_in (sections_at d o) ≡ Some expression
  pub type : type_of known d o [] expression ≡ Some s
