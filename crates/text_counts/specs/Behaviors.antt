-- How many statements, or statements and nodes, a behaviour has where loops are unrolled and each call is followed by the behaviours of all
-- operations that it may run.
use Rattle.std.specs.Prelude.{ℕ, List, Option, None, Some}
use Rattle.lisa_tree.specs.Expressions.{ExprTree}
use Rattle.lisa_tree.specs.Statements as stmts
use Rattle.lisa_tree.specs.Statements.{HeadTree, StmtTree, StmtTrees}
use Rattle.lisa_tree.specs.Descriptions.{DescriptionTree}
use Rattle.shape_checks.specs.declared.bounds.Bounds.{Bounds}
use Rattle.shape_checks.specs.Bounds.{bounds_of, turns}
use Rattle.text_counts.specs.Sums.{Counts, plus, one_more, times}
use Rattle.text_counts.specs.Expressions.{counted_of, known_or, expression_nodes}

-- What expressions count: nothing where statements alone are counted, else their nodes, by what is known of those of operations.
abbrev pub weight : Option Counts → DescriptionTree → ℕ → ExprTree → Option ℕ
weight None d o e = Some 0
weight (Some nodes) d o e = expression_nodes nodes d o e

-- of a call: what is known of all that it may run
abbrev pub called : Counts → DescriptionTree → ℕ → List ℕ → Option ℕ
called known d o n = known_or 0 known (counted_of d o n)

abbrev pub turns_in : Option Bounds → ℕ
turns_in None = 0
turns_in (Some b) = turns b

abbrev pub turns_of : HeadTree → ℕ
turns_of head = turns_in (bounds_of head)

abbrev pub initial : (ExprTree → Option ℕ) → Option ExprTree → Option ℕ
initial weigh None = Some 0
initial weigh (Some e) = weigh e

-- Each statement counts one and what its expressions and calls count; an empty one, a block, a call and a `for` too. The name of a local
-- and the head of a `for` count nothing; the body of a `for` stands there once for each turn.
abbrev mutual
  pub statement_count : (ExprTree → Option ℕ) → (List ℕ → Option ℕ) → StmtTree → Option ℕ
  statement_count weigh call stmts.Empty = Some 1
  statement_count weigh call (stmts.Block all) = one_more (statements_count weigh call all)
  statement_count weigh call (stmts.Local shape n value) = one_more (initial weigh value)
  statement_count weigh call (stmts.Assign place value) = one_more (plus (weigh place) (weigh value))
  statement_count weigh call (stmts.If test chosen) = one_more (plus (weigh test) (statement_count weigh call chosen))
  statement_count weigh call (stmts.IfElse test chosen other) = one_more (plus (weigh test) (plus (statement_count weigh call chosen) (statement_count weigh call other)))
  statement_count weigh call (stmts.While test body) = one_more (plus (weigh test) (statement_count weigh call body))
  statement_count weigh call (stmts.For head body) = one_more (times (turns_of head) (statement_count weigh call body))
  statement_count weigh call (stmts.Call n) = one_more (call n)
  statement_count weigh call (stmts.Stall pipe stage) = Some 1
  statement_count weigh call (stmts.Flush pipe stage) = Some 1
  statement_count weigh call (stmts.Execute pipe) = Some 1
  statement_count weigh call (stmts.Shift pipe) = Some 1

  pub statements_count : (ExprTree → Option ℕ) → (List ℕ → Option ℕ) → StmtTrees → Option ℕ
  statements_count weigh call stmts.End = Some 0
  statements_count weigh call (stmts.Then s rest) = plus (statement_count weigh call s) (statements_count weigh call rest)

-- of an operation's behaviour, by what expressions count and what is known of the behaviours of others
abbrev pub behavior_count : Option Counts → Counts → DescriptionTree → ℕ → Option StmtTrees → Option ℕ
behavior_count nodes known d o None = Some 0
behavior_count nodes known d o (Some all) = statements_count (weight nodes d o) (called known d o) all
