-- Statements as plain trees, without where they lie in memory.
use Rattle.std.specs.Prelude.{ℕ, suc, max, List, [], ◌∷◌, Option}
use Rattle.std.specs.Option.{option_map, option_map_or}
use Rattle.lisa_tree.specs.declared.tokens.Shape.{Shape}
use Rattle.lisa_tree.specs.declared.statements.ForHead.{ForHead}
use Rattle.lisa_tree.specs.declared.statements.Stmt.{Stmt, Block', If', Held-Stmt-If-2, None', Some', Row_of-Stmt, end_of-Stmt, more_of-Stmt}
use Rattle.lisa_tree.specs.declared.statements.Stmt.TheVariants as stmts
use Rattle.lisa_tree.specs.Expressions.{ExprTree, expr_tree, expr_depth}

-- the head of a loop
pub record HeadTree : Type 0 where
  pub shape : Option Shape
  pub name : List ℕ
  pub first : ExprTree
  pub test : ExprTree
  pub next : List ℕ
  pub step : ExprTree

mutual
  pub data StmtTree : Type 0 where
    Empty : StmtTree
    Block : StmtTrees → StmtTree
    Local : Shape → List ℕ → Option ExprTree → StmtTree
    -- the place, and what it is given
    Assign : ExprTree → ExprTree → StmtTree
    If : ExprTree → StmtTree → StmtTree
    IfElse : ExprTree → StmtTree → StmtTree → StmtTree
    While : ExprTree → StmtTree → StmtTree
    For : HeadTree → StmtTree → StmtTree
    Call : List ℕ → StmtTree
    -- pipeline and stage
    Stall : List ℕ → List ℕ → StmtTree
    Flush : List ℕ → List ℕ → StmtTree
    Execute : List ℕ → StmtTree
    Shift : List ℕ → StmtTree

  -- a list of statements
  pub data StmtTrees : Type 0 where
    End : StmtTrees
    Then : StmtTree → StmtTrees → StmtTrees

abbrev pub head_tree : ForHead → HeadTree
head_tree head = record { shape = head.shape; name = head.name; first = expr_tree head.first; test = expr_tree head.test; next = head.next; step = expr_tree head.step }

abbrev mutual
  -- the plain tree that a statement stands for
  pub stmt_tree : Stmt → StmtTree
  stmt_tree stmts.Empty = Empty
  stmt_tree (Block' shape row) = Block (row_trees row)
  stmt_tree (stmts.Local shape name value) = Local shape name (option_map expr_tree value)
  stmt_tree (stmts.Assign place value) = Assign (expr_tree place) (expr_tree value)
  stmt_tree (If' test p chosen held) = with_else (expr_tree test) (stmt_tree chosen) held
  stmt_tree (stmts.While' test p body) = While (expr_tree test) (stmt_tree body)
  stmt_tree (stmts.For' head p body) = For (head_tree head.value) (stmt_tree body)
  stmt_tree (stmts.Call name) = Call name
  stmt_tree (stmts.Stall pipe stage) = Stall pipe stage
  stmt_tree (stmts.Flush pipe stage) = Flush pipe stage
  stmt_tree (stmts.Execute pipe) = Execute pipe
  stmt_tree (stmts.Shift pipe) = Shift pipe

  pub with_else : ExprTree → StmtTree → Held-Stmt-If-2 → StmtTree
  with_else test chosen None' = If test chosen
  with_else test chosen (Some' p other) = IfElse test chosen (stmt_tree other)

  pub row_trees : {m : _} → Row_of-Stmt m → StmtTrees
  row_trees end_of-Stmt = End
  row_trees (more_of-Stmt s rest) = Then (stmt_tree s) (row_trees rest)

-- the plain trees that a list of statements stands for
abbrev pub stmt_trees : List Stmt → StmtTrees
stmt_trees [] = End
stmt_trees (s ∷ rest) = Then (stmt_tree s) (stmt_trees rest)

-- the greatest depth of the expressions in a loop's head
abbrev pub head_depth : HeadTree → ℕ
head_depth head = max (expr_depth head.first) (max (expr_depth head.test) (expr_depth head.step))

-- a leaf has depth 1, and any other statement one more than the deepest of its parts; the head of a loop adds no level
abbrev mutual
  pub stmt_depth : StmtTree → ℕ
  stmt_depth (Block all) = suc (stmts_depth all)
  stmt_depth (Local shape name value) = suc (option_map_or expr_depth value 0)
  stmt_depth (Assign place value) = suc (max (expr_depth place) (expr_depth value))
  stmt_depth (If test chosen) = suc (max (expr_depth test) (stmt_depth chosen))
  stmt_depth (IfElse test chosen other) = suc (max (expr_depth test) (max (stmt_depth chosen) (stmt_depth other)))
  stmt_depth (While test body) = suc (max (expr_depth test) (stmt_depth body))
  stmt_depth (For head body) = suc (max (head_depth head) (stmt_depth body))
  stmt_depth _ = 1

  pub stmts_depth : StmtTrees → ℕ
  stmts_depth End = 0
  stmts_depth (Then s rest) = max (stmt_depth s) (stmts_depth rest)
