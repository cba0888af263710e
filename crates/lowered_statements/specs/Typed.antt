-- Statements of which a description has said what is needed.
use Rattle.std.specs.Prelude.{ℕ, List, [], ◌∷◌, ◌++◌, Option, None, Some, ⊤}
use Rattle.lisa_tree.specs.declared.tokens.Shape.{Shape}
use Rattle.lisa_tree.specs.Expressions.{ExprTree}
use Rattle.lisa_tree.specs.Statements as stmts
use Rattle.lisa_tree.specs.Statements.{StmtTree, StmtTrees}
use Rattle.lowered_statements.specs.Scopes.{Names, IsNew}
use Rattle.lowered_statements.specs.Stated.{shaped, counter_shape}

-- what is asked of an expression that is read and of a place that is assigned, where these locals are in scope, and of names of children
-- and stages
pub record Rules : Type 1 where
  pub reads : Names → ExprTree → Type 0
  pub puts : Names → ExprTree → Type 0
  pub calls : List ℕ → Type 0
  pub stalls : List ℕ → Type 0
  pub flushes : List ℕ → Type 0

abbrev pub IsFirst : Rules → Names → Option ExprTree → Type 0
IsFirst rules names None = ⊤
IsFirst rules names (Some e) = rules.reads names e

-- the locals that are in scope behind a statement
abbrev pub names_after : Names → StmtTree → Names
names_after names (stmts.Local shape n e) = names ++ (n, shaped shape) ∷ []
names_after names stmts.Empty = names
names_after names (stmts.Block all) = names
names_after names (stmts.Assign target e) = names
names_after names (stmts.If test chosen) = names
names_after names (stmts.IfElse test chosen other) = names
names_after names (stmts.While test body) = names
names_after names (stmts.For head body) = names
names_after names (stmts.Call n) = names
names_after names (stmts.Stall pipe stage) = names
names_after names (stmts.Flush pipe stage) = names
names_after names (stmts.Execute pipe) = names
names_after names (stmts.Shift pipe) = names

-- A local's name is that of no other in scope.
abbrev mutual
  pub IsTyped : Rules → Names → StmtTree → Type 0
  IsTyped rules names stmts.Empty = ⊤
  IsTyped rules names (stmts.Block all) = AreTyped rules names all
  IsTyped rules names (stmts.Local shape n e) = IsNew names n × IsFirst rules names e
  IsTyped rules names (stmts.Assign target e) = rules.reads names e × rules.puts names target
  IsTyped rules names (stmts.If test chosen) = rules.reads names test × IsTyped rules names chosen
  IsTyped rules names (stmts.IfElse test chosen other) = rules.reads names test × IsTyped rules names chosen × IsTyped rules names other
  IsTyped rules names (stmts.While test body) = ⊤
  IsTyped rules names (stmts.For head body) = IsNew names head.name × IsTyped rules (names ++ (head.name, counter_shape head.shape) ∷ []) body
  IsTyped rules names (stmts.Call n) = rules.calls n
  IsTyped rules names (stmts.Stall pipe stage) = rules.stalls stage
  IsTyped rules names (stmts.Flush pipe stage) = rules.flushes stage
  IsTyped rules names (stmts.Execute pipe) = ⊤
  IsTyped rules names (stmts.Shift pipe) = ⊤

  pub AreTyped : Rules → Names → StmtTrees → Type 0
  AreTyped rules names stmts.End = ⊤
  AreTyped rules names (stmts.Then s rest) = IsTyped rules names s × AreTyped rules (names_after names s) rest
