-- How often a text reads and writes elements of arrays, by what the operations that its names stand for do: with each loop unrolled.
use Rattle.std.specs.Prelude.{ℕ, ◌+◌, ◌*◌, List, Option, None, Some}
use Rattle.std.specs.Option.{option_map_or}
use Rattle.lisa_tree.specs.Expressions as exprs
use Rattle.lisa_tree.specs.Expressions.{ExprTree}
use Rattle.lisa_tree.specs.Statements as stmts
use Rattle.lisa_tree.specs.Statements.{HeadTree, StmtTree, StmtTrees}
use Rattle.lisa_tree.specs.Activations as acts
use Rattle.lisa_tree.specs.Activations.{ActTree, ActTrees}
use Rattle.shape_checks.specs.Bounds.{bounds_of, turns}

-- what a read, and a write, of an element of an array counts
pub record Access : Type 0 where
  pub read : List ℕ → ℕ
  pub write : List ℕ → ℕ

-- what the operations count that a name stands for: where the name is read, assigned and called
pub record Naming : Type 0 where
  pub read : List ℕ → ℕ
  pub assigned : List ℕ → ℕ
  pub run : List ℕ → ℕ

-- ---- expressions, statements and items of activations

-- of an expression that is read
abbrev pub value_accesses : Access → Naming → ExprTree → ℕ
value_accesses a names (exprs.Number v base) = 0
value_accesses a names (exprs.Named n) = names.read n
value_accesses a names (exprs.Element n index) = a.read n + value_accesses a names index
value_accesses a names (exprs.Input field) = 0
value_accesses a names (exprs.Output field) = 0
value_accesses a names (exprs.Boundary pipe before after field) = 0
value_accesses a names exprs.Decoded = 0
value_accesses a names (exprs.Cast shape x) = value_accesses a names x
value_accesses a names (exprs.Complement x) = value_accesses a names x
value_accesses a names (exprs.Negate x) = value_accesses a names x
value_accesses a names (exprs.Two operator x y) = value_accesses a names x + value_accesses a names y
value_accesses a names (exprs.Choose c x y) = value_accesses a names c + (value_accesses a names x + value_accesses a names y)

-- of one that is assigned: the element is written, and its index read
abbrev pub place_accesses : Access → Naming → ExprTree → ℕ
place_accesses a names (exprs.Named n) = names.assigned n
place_accesses a names (exprs.Element n index) = a.write n + value_accesses a names index
place_accesses a names _ = 0

-- how many turns a loop makes; one without bounds, which no accepted description has, counts as making none
abbrev pub turns_of : HeadTree → ℕ
turns_of head = option_map_or turns (bounds_of head) 0

-- The body of a `for` stands there once for each turn, and its head counts nothing.
abbrev mutual
  pub statement_accesses : Access → Naming → StmtTree → ℕ
  statement_accesses a names stmts.Empty = 0
  statement_accesses a names (stmts.Block all) = statements_accesses a names all
  statement_accesses a names (stmts.Local shape n value) = option_map_or (value_accesses a names) value 0
  statement_accesses a names (stmts.Assign place value) = place_accesses a names place + value_accesses a names value
  statement_accesses a names (stmts.If test chosen) = value_accesses a names test + statement_accesses a names chosen
  statement_accesses a names (stmts.IfElse test chosen other) = value_accesses a names test + (statement_accesses a names chosen + statement_accesses a names other)
  statement_accesses a names (stmts.While test body) = value_accesses a names test + statement_accesses a names body
  statement_accesses a names (stmts.For head body) = turns_of head * statement_accesses a names body
  statement_accesses a names (stmts.Call n) = names.run n
  statement_accesses a names (stmts.Stall pipe stage) = 0
  statement_accesses a names (stmts.Flush pipe stage) = 0
  statement_accesses a names (stmts.Execute pipe) = 0
  statement_accesses a names (stmts.Shift pipe) = 0

  pub statements_accesses : Access → Naming → StmtTrees → ℕ
  statements_accesses a names stmts.End = 0
  statements_accesses a names (stmts.Then s rest) = statement_accesses a names s + statements_accesses a names rest

-- Of an activation its conditions count, and both branches.
abbrev mutual
  pub item_accesses : Access → Naming → ActTree → ℕ
  item_accesses a names (acts.Start n) = 0
  item_accesses a names (acts.Choose test chosen) = value_accesses a names test + items_accesses a names chosen
  item_accesses a names (acts.ChooseElse test chosen other) = value_accesses a names test + (items_accesses a names chosen + items_accesses a names other)

  pub items_accesses : Access → Naming → ActTrees → ℕ
  items_accesses a names acts.End = 0
  items_accesses a names (acts.Then item rest) = item_accesses a names item + items_accesses a names rest
