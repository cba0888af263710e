-- The trees that tokens spell: what each of their parts is, and which expressions stand where.
use Rattle.std.specs.Prelude.{◌≢◌, ℕ, List, [], IfSome}
use Rattle.std.specs.List.{AllByRecursion}
use Rattle.lisa_tree.specs.declared.descriptions.CodingItem.{CodingItem}
use Rattle.lisa_tree.specs.declared.descriptions.CodingItem.TheVariants as items
use Rattle.lisa_tree.specs.declared.descriptions.SyntaxItem.{SyntaxItem}
use Rattle.lisa_tree.specs.declared.descriptions.SyntaxPart.{SyntaxPart}
use Rattle.lisa_tree.specs.declared.descriptions.SyntaxPart.TheVariants as parts
use Rattle.lisa_tree.specs.Expressions as exprs
use Rattle.lisa_tree.specs.Expressions.{ExprTree}
use Rattle.lisa_tree.specs.Statements as stmts
use Rattle.lisa_tree.specs.Statements.{HeadTree, StmtTree, StmtTrees}
use Rattle.lisa_tree.specs.Activations as acts
use Rattle.lisa_tree.specs.Activations.{ActTree, ActTrees}
use Rattle.lisa_tree.specs.Descriptions as trees
use Rattle.lisa_tree.specs.Descriptions.{ResourceTree, CodingTree, DeclareTree, SectionTree, OperationTree, DescriptionTree}
use Rattle.lisa_tree.specs.DescriptionGrammar.{IsSyntax}
use Rattle.spelled_promises.specs.Words.{IsName, IsNumber, IsType, IsPattern, IsText}

-- ---- expressions

-- an expression that is read: no `OUT.f` stands in it
abbrev pub IsWellFormedExpr : ExprTree → Type 0
IsWellFormedExpr (exprs.Number value base) = IsNumber value
IsWellFormedExpr (exprs.Named n) = IsName n
IsWellFormedExpr (exprs.Element n index) = IsName n × IsWellFormedExpr index
IsWellFormedExpr (exprs.Input field) = IsName field
IsWellFormedExpr (exprs.Output field) = ⊥
IsWellFormedExpr (exprs.Boundary pipe before after field) = IsName pipe × IsName before × IsName after × IsName field
IsWellFormedExpr exprs.Decoded = Unit {0}
IsWellFormedExpr (exprs.Cast shape a) = IsType shape × IsWellFormedExpr a
IsWellFormedExpr (exprs.Complement a) = IsWellFormedExpr a
IsWellFormedExpr (exprs.Negate a) = IsWellFormedExpr a
IsWellFormedExpr (exprs.Two operator a b) = IsWellFormedExpr a × IsWellFormedExpr b
IsWellFormedExpr (exprs.Choose c a b) = IsWellFormedExpr c × IsWellFormedExpr a × IsWellFormedExpr b

-- what is assigned: a name, an element, or `OUT.f`
abbrev pub IsTarget : ExprTree → Type 0
IsTarget (exprs.Named n) = IsName n
IsTarget (exprs.Element n index) = IsName n × IsWellFormedExpr index
IsTarget (exprs.Output field) = IsName field
IsTarget _ = ⊥

-- the word of a root: a name, or `IN.f`
abbrev pub IsRootWord : ExprTree → Type 0
IsRootWord (exprs.Named n) = IsName n
IsRootWord (exprs.Input field) = IsName field
IsRootWord _ = ⊥

-- ---- statements and activations

pub record IsWellFormedHead (head : HeadTree) : Type 0 where
  pub shape : IfSome head.shape IsType
  pub name : IsName head.name
  pub first : IsWellFormedExpr head.first
  pub test : IsWellFormedExpr head.test
  pub next : IsName head.next
  pub step : IsWellFormedExpr head.step

abbrev mutual
  pub IsWellFormedStmt : StmtTree → Type 0
  IsWellFormedStmt stmts.Empty = Unit {0}
  IsWellFormedStmt (stmts.Block all) = IsWellFormedStmts all
  IsWellFormedStmt (stmts.Local shape n value) = IsType shape × IsName n × IfSome value IsWellFormedExpr
  IsWellFormedStmt (stmts.Assign target value) = IsTarget target × IsWellFormedExpr value
  IsWellFormedStmt (stmts.If test chosen) = IsWellFormedExpr test × IsWellFormedStmt chosen
  IsWellFormedStmt (stmts.IfElse test chosen other) = IsWellFormedExpr test × IsWellFormedStmt chosen × IsWellFormedStmt other
  IsWellFormedStmt (stmts.While test body) = IsWellFormedExpr test × IsWellFormedStmt body
  IsWellFormedStmt (stmts.For head body) = IsWellFormedHead head × IsWellFormedStmt body
  IsWellFormedStmt (stmts.Call n) = IsName n
  IsWellFormedStmt (stmts.Stall pipe stage) = IsName pipe × IsName stage
  IsWellFormedStmt (stmts.Flush pipe stage) = IsName pipe × IsName stage
  IsWellFormedStmt (stmts.Execute pipe) = IsName pipe
  IsWellFormedStmt (stmts.Shift pipe) = IsName pipe

  pub IsWellFormedStmts : StmtTrees → Type 0
  IsWellFormedStmts stmts.End = Unit {0}
  IsWellFormedStmts (stmts.Then s rest) = IsWellFormedStmt s × IsWellFormedStmts rest

abbrev mutual
  pub IsWellFormedAct : ActTree → Type 0
  IsWellFormedAct (acts.Start n) = IsName n
  IsWellFormedAct (acts.Choose test chosen) = IsWellFormedExpr test × IsWellFormedActs chosen
  IsWellFormedAct (acts.ChooseElse test chosen other) = IsWellFormedExpr test × IsWellFormedActs chosen × IsWellFormedActs other

  pub IsWellFormedActs : ActTrees → Type 0
  IsWellFormedActs acts.End = Unit {0}
  IsWellFormedActs (acts.Then a rest) = IsWellFormedAct a × IsWellFormedActs rest

-- ---- declarations, codings, syntaxes

-- one or more names
pub record AreNames (names : List (List ℕ)) : Type 0 where
  pub some : names ≢ []
  pub each : AllByRecursion IsName names

abbrev pub ArePairs : List (List ℕ × List ℕ) → Type 0
ArePairs pairs = AllByRecursion (λ pair. IsName pair.0 × IsName pair.1) pairs

abbrev pub IsWellFormedDeclare : DeclareTree → Type 0
IsWellFormedDeclare (trees.Group names alternatives) = AreNames names × AreNames alternatives
IsWellFormedDeclare (trees.Instance pairs) = (pairs ≢ []) × ArePairs pairs
IsWellFormedDeclare (trees.Label names) = AreNames names
IsWellFormedDeclare (trees.Reference names) = AreNames names

abbrev pub IsWellFormedItem : CodingItem → Type 0
IsWellFormedItem (items.Bits pattern) = IsPattern pattern
IsWellFormedItem (items.Field n pattern) = IsName n × IsPattern pattern
IsWellFormedItem (items.Child n) = IsName n

abbrev pub IsWellFormedCoding : CodingTree → Type 0
IsWellFormedCoding (trees.Root word group) = IsRootWord word × IsName group
IsWellFormedCoding (trees.Items all) = (all ≢ []) × AllByRecursion IsWellFormedItem all

abbrev pub IsWellFormedPart : SyntaxPart → Type 0
IsWellFormedPart (parts.Literal text) = IsText text
IsWellFormedPart (parts.Number label format) = IsName label
IsWellFormedPart (parts.Child n) = IsName n

-- there is a first item, which isn't joined
abbrev pub IsWellFormedSyntax : List SyntaxItem → Type 0
IsWellFormedSyntax all = IsSyntax all × AllByRecursion (λ item. IsWellFormedPart item.part) all

-- ---- resources, operations, the whole description

abbrev pub IsWellFormedResource : ResourceTree → Type 0
IsWellFormedResource (trees.Register word shape n depth) = IsType shape × IsName n × IfSome depth IsNumber
IsWellFormedResource (trees.Clocked word shape n) = IsType shape × IsName n
IsWellFormedResource (trees.Memory word shape n depth) = IsType shape × IsName n × IsNumber depth
IsWellFormedResource (trees.Pin shape n) = IsType shape × IsName n
IsWellFormedResource (trees.Pipeline n stages) = IsName n × AreNames stages
IsWellFormedResource (trees.Fields pipe fields) = IsName pipe × AllByRecursion (λ field. IsType field.0 × IsName field.1) fields

abbrev pub IsWellFormedSection : SectionTree → Type 0
IsWellFormedSection (trees.Declares all) = AllByRecursion IsWellFormedDeclare all
IsWellFormedSection (trees.Coding part) = IsWellFormedCoding part
IsWellFormedSection (trees.Syntax all) = IsWellFormedSyntax all
IsWellFormedSection (trees.Behavior all) = IsWellFormedStmts all
IsWellFormedSection (trees.Expression e) = IsWellFormedExpr e
IsWellFormedSection (trees.Activation all) = IsWellFormedActs all

pub record IsWellFormedOperation (operation : OperationTree) : Type 0 where
  pub name : IsName operation.name
  pub stage : IfSome operation.stage (λ stage. IsName stage.0 × IsName stage.1)
  pub sections : AllByRecursion IsWellFormedSection operation.sections

pub record IsWellFormed (d : DescriptionTree) : Type 0 where
  pub resources : AllByRecursion IsWellFormedResource d.resources
  pub operations : AllByRecursion IsWellFormedOperation d.operations
