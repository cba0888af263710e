-- Rows of the language's samples that were worked out by hand, on their descriptions.
use Rattle.std.proofs.Common.{◌≡◌, ℕ, false, List, [], ◌∷◌, None, Some, codes, refl}
use Rattle.lisa_words.specs.declared.words.Kind.TheVariants as kinds
use Rattle.lisa_tree.specs.declared.tokens.Shape.{Shape}
use Rattle.lisa_tree.specs.declared.tokens.Base.TheVariants as bases
use Rattle.lisa_tree.specs.declared.descriptions.RegisterWord.TheVariants as words
use Rattle.lisa_words.specs.declared.binary.Operator.TheVariants as operators
use Rattle.lisa_tree.specs.Expressions as exprs
use Rattle.lisa_tree.specs.Expressions.{ExprTree}
use Rattle.lisa_tree.specs.Statements as stmts
use Rattle.lisa_tree.specs.Statements.{StmtTree, StmtTrees}
use Rattle.lisa_tree.specs.Activations as items
use Rattle.lisa_tree.specs.Descriptions as trees
use Rattle.lisa_tree.specs.Descriptions.{OperationTree, DescriptionTree}
use Rattle.pipeline_time.specs.Running.{behavior, activate}
use Rattle.lisa_meaning.specs.States.{state_of}

abbrev byte : Shape
byte = record { kind = kinds.Unsigned; width = 8 }

abbrev name : List ℕ → ExprTree
name n = exprs.Named n

abbrev number : ℕ → ExprTree
number v = exprs.Number v bases.Decimal

-- an operation that only has a BEHAVIOR
abbrev does : List ℕ → StmtTrees → OperationTree
does n all = record { name = n; alias = false; stage = None; sections = trees.Behavior all ∷ [] }

abbrev one : StmtTree → StmtTrees
one s = stmts.Then s stmts.End

abbrev two : StmtTree → StmtTree → StmtTrees
two s t = stmts.Then s (one t)

-- `n` begins with 5 and counts
abbrev counting : DescriptionTree
counting = record {
  resources = trees.Register words.Register byte (codes "n") None ∷ [];
  operations = does (codes "reset") (one (stmts.Assign (name (codes "n")) (number 5))) ∷ does (codes "main") (one (stmts.Assign (name (codes "n")) (exprs.Two operators.Add (name (codes "n")) (number 1)))) ∷ [];
}

counts : ((state_of counting [] []).items ≡ 5 ∷ []) × ((state_of counting [] ([] ∷ [] ∷ [])).items ≡ 7 ∷ [])
unfolding behavior activate lib.Count.count_leading_zeros
counts = (refl, refl)

-- two clocked registers change places
abbrev swapping : DescriptionTree
swapping = record {
  resources = trees.Clocked words.Register byte (codes "a") ∷ trees.Clocked words.Register byte (codes "b") ∷ [];
  operations =
      does (codes "reset") (two (stmts.Assign (name (codes "a")) (number 1)) (stmts.Assign (name (codes "b")) (number 2)))
      ∷ does (codes "main") (two (stmts.Assign (name (codes "a")) (name (codes "b"))) (stmts.Assign (name (codes "b")) (name (codes "a"))))
      ∷ [];
}

swaps : ((state_of swapping [] ([] ∷ [])).items ≡ 2 ∷ 1 ∷ []) × ((state_of swapping [] ([] ∷ [] ∷ [])).items ≡ 1 ∷ 2 ∷ [])
unfolding behavior activate lib.Count.count_leading_zeros
swaps = (refl, refl)

-- two stages that write one register and one array in one edge
abbrev staged : List ℕ → List ℕ → List ℕ → StmtTrees → OperationTree
staged n stage next all = record {
  name = n;
  alias = false;
  stage = Some (codes "p", stage);
  sections = trees.Declares (trees.Instance ((next, next) ∷ []) ∷ []) ∷ trees.Behavior all ∷ trees.Activation (items.Then (items.Start next) items.End) ∷ [];
}

abbrev first_cell : ExprTree
first_cell = exprs.Element (codes "M") (number 0)

abbrev sharing : DescriptionTree
sharing = record {
  resources = trees.Register words.Register byte (codes "x") None ∷ trees.Register words.Register byte (codes "M") (Some 2) ∷ trees.Pipeline (codes "p") (codes "A" ∷ codes "B" ∷ []) ∷ [];
  operations =
      record {
        name = codes "main";
        alias = false;
        stage = None;
        sections = trees.Declares (trees.Instance ((codes "a", codes "a") ∷ []) ∷ []) ∷ trees.Activation (items.Then (items.Start (codes "a")) items.End) ∷ [];
      }
      ∷ staged (codes "a") (codes "A") (codes "b") (two (stmts.Assign first_cell (exprs.Two operators.Add first_cell (number 2))) (stmts.Assign (name (codes "x")) (exprs.Two operators.Add (name (codes "x")) (number 10))))
      ∷ record {
        name = codes "b";
        alias = false;
        stage = Some (codes "p", codes "B");
        sections = trees.Behavior (two (stmts.Assign (name (codes "x")) (number 3)) (stmts.Assign first_cell (name (codes "x")))) ∷ [];
      }
      ∷ [];
}

-- after two edges: in the second one the later stage runs first
shares : ((state_of sharing [] ([] ∷ [] ∷ [])).items ≡ 13 ∷ 1 ∷ []) × ((state_of sharing [] ([] ∷ [] ∷ [])).cells ≡ (5 ∷ 0 ∷ []) ∷ [])
unfolding behavior activate lib.Count.count_leading_zeros
shares = (refl, refl)
