-- What texts are worth: as many bytes as a unit of weight for each node of an expression and each statement, and what reads and writes of
-- arrays cost beside; by what the names in them are worth.
use Rattle.std.specs.Prelude.{ℕ, ◌+◌, ◌*◌, List}
use Rattle.std.specs.Option.{option_map_or}
use Rattle.lisa_tree.specs.Expressions as exprs
use Rattle.lisa_tree.specs.Expressions.{ExprTree}
use Rattle.lisa_tree.specs.Statements as stmts
use Rattle.lisa_tree.specs.Statements.{StmtTree, StmtTrees}
use Rattle.shape_checks.specs.Bounds.{bounds_of, turns}

-- of a unit of weight
abbrev pub unit : ℕ
unit = 2048

-- What names are worth where they are read, assigned and called, and what a read and a write of an element cost beside.
pub record Naming : Type 0 where
  pub read : List ℕ → ℕ
  pub assigned : List ℕ → ℕ
  pub run : List ℕ → ℕ
  pub element : List ℕ → ℕ
  pub written : List ℕ → ℕ

-- an expression that is read
abbrev pub value_worth : Naming → ExprTree → ℕ
value_worth names (exprs.Number v base) = unit
value_worth names (exprs.Named n) = names.read n
value_worth names (exprs.Element n index) = unit + (names.element n + value_worth names index)
value_worth names (exprs.Input field) = unit
value_worth names (exprs.Output field) = unit
value_worth names (exprs.Boundary pipe before after field) = unit
value_worth names exprs.Decoded = unit
value_worth names (exprs.Cast shape a) = unit + value_worth names a
value_worth names (exprs.Complement a) = unit + value_worth names a
value_worth names (exprs.Negate a) = unit + value_worth names a
value_worth names (exprs.Two operator a b) = unit + (value_worth names a + value_worth names b)
value_worth names (exprs.Choose c a b) = unit + (value_worth names c + (value_worth names a + value_worth names b))

-- one that is assigned
abbrev pub place_worth : Naming → ExprTree → ℕ
place_worth names (exprs.Named n) = names.assigned n
place_worth names (exprs.Element n index) = unit + (names.written n + value_worth names index)
place_worth names _ = unit

-- Statements. The body of a loop stands there once for each turn.
abbrev mutual
  pub statement_worth : Naming → StmtTree → ℕ
  statement_worth names stmts.Empty = unit
  statement_worth names (stmts.Block all) = unit + statements_worth names all
  statement_worth names (stmts.Local shape n value) = unit + option_map_or (value_worth names) value 0
  statement_worth names (stmts.Assign place value) = unit + (place_worth names place + value_worth names value)
  statement_worth names (stmts.If test chosen) = unit + (value_worth names test + statement_worth names chosen)
  statement_worth names (stmts.IfElse test chosen other) = unit + (value_worth names test + (statement_worth names chosen + statement_worth names other))
  statement_worth names (stmts.While test body) = unit + (value_worth names test + statement_worth names body)
  statement_worth names (stmts.For head body) = unit + option_map_or turns (bounds_of head) 0 * statement_worth names body
  statement_worth names (stmts.Call n) = unit + names.run n
  statement_worth names (stmts.Stall pipe stage) = unit
  statement_worth names (stmts.Flush pipe stage) = unit
  statement_worth names (stmts.Execute pipe) = unit
  statement_worth names (stmts.Shift pipe) = unit

  pub statements_worth : Naming → StmtTrees → ℕ
  statements_worth names stmts.End = 0
  statements_worth names (stmts.Then s rest) = statement_worth names s + statements_worth names rest
