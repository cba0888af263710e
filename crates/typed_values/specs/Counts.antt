-- How many statements stand in a text whose loops are unrolled, and how many nodes: statements and the nodes of their expressions.
use Rattle.std.specs.Prelude.{ℕ, ◌+◌, ◌*◌, Option, None, Some}
use Rattle.lisa_tree.specs.Expressions as exprs
use Rattle.lisa_tree.specs.Expressions.{ExprTree}
use Rattle.lisa_tree.specs.Statements as stmts
use Rattle.lisa_tree.specs.Statements.{HeadTree, StmtTree, StmtTrees}
use Rattle.shape_checks.specs.declared.bounds.Bounds.{Bounds}
use Rattle.shape_checks.specs.Bounds.{bounds_of, turns}

abbrev pub turns_of : Option Bounds → ℕ
turns_of None = 0
turns_of (Some b) = turns b

abbrev mutual
  -- each statement counts once, an empty one, a block, a call and a `for` too; the body of a `for` stands there once for each turn
  pub statement_count : StmtTree → ℕ
  statement_count (stmts.Block all) = 1 + statements_count all
  statement_count (stmts.If test chosen) = 1 + statement_count chosen
  statement_count (stmts.IfElse test chosen other) = 1 + (statement_count chosen + statement_count other)
  statement_count (stmts.While test body) = 1 + statement_count body
  statement_count (stmts.For head body) = 1 + turns_of (bounds_of head) * statement_count body
  statement_count _ = 1

  pub statements_count : StmtTrees → ℕ
  statements_count stmts.End = 0
  statements_count (stmts.Then s rest) = statement_count s + statements_count rest

-- each node of an expression counts once, also of one that is assigned
abbrev pub expression_nodes : ExprTree → ℕ
expression_nodes (exprs.Element n index) = 1 + expression_nodes index
expression_nodes (exprs.Cast shape a) = 1 + expression_nodes a
expression_nodes (exprs.Complement a) = 1 + expression_nodes a
expression_nodes (exprs.Negate a) = 1 + expression_nodes a
expression_nodes (exprs.Two operator a b) = 1 + (expression_nodes a + expression_nodes b)
expression_nodes (exprs.Choose c a b) = 1 + (expression_nodes c + (expression_nodes a + expression_nodes b))
expression_nodes _ = 1

abbrev pub initial_nodes : Option ExprTree → ℕ
initial_nodes None = 0
initial_nodes (Some e) = expression_nodes e

abbrev mutual
  -- each statement counts once and its expressions count their nodes; the name of a local and the head of a `for` count nothing
  pub statement_nodes : StmtTree → ℕ
  statement_nodes (stmts.Block all) = 1 + statements_nodes all
  statement_nodes (stmts.Local shape n value) = 1 + initial_nodes value
  statement_nodes (stmts.Assign place value) = 1 + (expression_nodes place + expression_nodes value)
  statement_nodes (stmts.If test chosen) = 1 + (expression_nodes test + statement_nodes chosen)
  statement_nodes (stmts.IfElse test chosen other) = 1 + (expression_nodes test + (statement_nodes chosen + statement_nodes other))
  statement_nodes (stmts.While test body) = 1 + (expression_nodes test + statement_nodes body)
  statement_nodes (stmts.For head body) = 1 + turns_of (bounds_of head) * statement_nodes body
  statement_nodes _ = 1

  pub statements_nodes : StmtTrees → ℕ
  statements_nodes stmts.End = 0
  statements_nodes (stmts.Then s rest) = statement_nodes s + statements_nodes rest
