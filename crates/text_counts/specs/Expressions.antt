-- How many nodes an expression has where each child that it reads is replaced by the expressions of all that the child may choose.
use Rattle.std.specs.Prelude.{ℕ, List, [], ◌∷◌, Option, None, Some}
use Rattle.lisa_tree.specs.Expressions as exprs
use Rattle.lisa_tree.specs.Expressions.{ExprTree}
use Rattle.lisa_tree.specs.Descriptions.{DescriptionTree}
use Rattle.lisa_tree.specs.declared.declared.What.{What}
use Rattle.lisa_tree.specs.declared.declared.What.TheVariants as whats
use Rattle.lisa_tree.specs.Declarations.{declared_at, what_at}
use Rattle.lisa_tree.specs.Paths.{choice_node, entry_node}
use Rattle.text_counts.specs.Sums.{Counts, plus, one_more, sum_of}

-- ---- where what a name chooses among is counted: at its choice for a group or an instance, else at the reference

abbrev pub counted_at : DescriptionTree → ℕ → Option What → Option ℕ
counted_at d i None = None
counted_at d i (Some (whats.Group c)) = Some (choice_node d c)
counted_at d i (Some (whats.Instance c)) = Some (choice_node d c)
counted_at d i (Some whats.Label) = None
counted_at d i (Some whats.Reference) = Some (entry_node d i)

abbrev counted_where : DescriptionTree → Option ℕ → Option ℕ
counted_where d None = None
counted_where d (Some i) = counted_at d i (what_at d i)

-- of a name in an operation; a local, a resource or a label chooses nothing
abbrev pub counted_of : DescriptionTree → ℕ → List ℕ → Option ℕ
counted_of d o n = counted_where d (declared_at d o n)

abbrev pub known_or : ℕ → Counts → Option ℕ → Option ℕ
known_or count known None = Some count
known_or count known (Some a) = known a

-- ---- nodes

-- A name that stands for itself is one node. A child has one for each operation that it may choose, and those of its expression; a reference
-- that can choose none stands for a label.
abbrev pub read_nodes : Counts → List ℕ → Option ℕ
read_nodes known [] = Some 1
read_nodes known (a ∷ rest) = sum_of 1 known (a ∷ rest)

abbrev pub name_nodes : Counts → DescriptionTree → ℕ → List ℕ → Option ℕ
name_nodes known d o n = known_or 1 known (counted_of d o n)

-- of an expression in an operation, also of one that is assigned: each node one
abbrev pub expression_nodes : Counts → DescriptionTree → ℕ → ExprTree → Option ℕ
expression_nodes known d o (exprs.Number v base) = Some 1
expression_nodes known d o (exprs.Named n) = name_nodes known d o n
expression_nodes known d o (exprs.Element n index) = one_more (expression_nodes known d o index)
expression_nodes known d o (exprs.Input field) = Some 1
expression_nodes known d o (exprs.Output field) = Some 1
expression_nodes known d o (exprs.Boundary pipe before after field) = Some 1
expression_nodes known d o exprs.Decoded = Some 1
expression_nodes known d o (exprs.Cast shape a) = one_more (expression_nodes known d o a)
expression_nodes known d o (exprs.Complement a) = one_more (expression_nodes known d o a)
expression_nodes known d o (exprs.Negate a) = one_more (expression_nodes known d o a)
expression_nodes known d o (exprs.Two operator a b) = one_more (plus (expression_nodes known d o a) (expression_nodes known d o b))
expression_nodes known d o (exprs.Choose c a b) = one_more (plus (expression_nodes known d o c) (plus (expression_nodes known d o a) (expression_nodes known d o b)))

-- of an operation's expression
abbrev pub own_nodes : Counts → DescriptionTree → ℕ → Option ExprTree → Option ℕ
own_nodes known d o None = Some 0
own_nodes known d o (Some e) = expression_nodes known d o e
