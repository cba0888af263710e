-- What gives a declared name its value.
use Rattle.std.specs.Prelude.{◌≡◌, ℕ, true, Some, slice_get}
use Rattle.lisa_tree.specs.declared.tokens.Shape.{Shape}
use Rattle.lisa_tree.specs.Expressions.{ExprTree}
use Rattle.lisa_tree.specs.Descriptions.{DescriptionTree}
use Rattle.lisa_tree.specs.declared.declared.What.TheVariants as whats
use Rattle.lisa_tree.specs.Operations.{sections_at, coding_in, syntax_in, expression_in}
use Rattle.lisa_tree.specs.Declarations.{Entry, entries, plain_at}
use Rattle.graph_paths.specs.Paths.{is_in}
use Rattle.lisa_machine.specs.coded_names.Codings.{field_width, number_kind}
use Rattle.lisa_machine.specs.description_types.Shapes.{shape_of}
use Rattle.lisa_machine.specs.description_types.Codings.{kind_or_unsigned}
use Rattle.lisa_machine.specs.meant_declarations.Meant.{MayMean}
use Rattle.use_promises.specs.Meant.{ChoosesFrom}

-- an operation has an EXPRESSION
abbrev pub HasExpression : DescriptionTree → ℕ → Type 0
HasExpression d o = (x : ExprTree) × (expression_in (sections_at d o) ≡ Some x)

-- A label is a field of its operation's coding. Its type has the width of the first one, and the kind of its first number in the syntax.
pub record IsField (d : DescriptionTree) (e : Entry) (shape : Shape) : Type 0 where
  pub width : ℕ
  pub field : field_width e.name (coding_in (sections_at d e.operation)) ≡ Some width
  pub type : shape ≡ shape_of (kind_or_unsigned (number_kind e.name (syntax_in (sections_at d e.operation)))) width

-- what a declared name of this type may mean
pub record HasValues (d : DescriptionTree) (i : ℕ) (shape : Shape) : Type 0 where
  -- each operation of a group or instance that is no alias has an EXPRESSION
  pub children : (j c : ℕ) (e : Entry) → MayMean d i j → slice_get (entries d) j ≡ Some e → ChoosesFrom e c → (o : ℕ) → is_in o (plain_at d c) ≡ true → HasExpression d o
  -- each label has a field
  pub labels : (j : ℕ) (e : Entry) → MayMean d i j → slice_get (entries d) j ≡ Some e → e.what ≡ whats.Label → IsField d e shape
