-- When something runs in a scene as it is lowered at a standpoint. On the way to the program: nothing here needs to be trusted.
use Rattle.std.specs.Prelude.{ℕ, ◌≡◌, ◌<◌, ◌^◌, List, Option, None, Some, ⊤}
use Rattle.std.specs.List.{AllZip}
use Rattle.std.specs.Option.{option_and_then}
use Rattle.lisa_tree.specs.declared.tokens.Shape.{Shape}
use Rattle.lisa_tree.specs.Expressions.{ExprTree}
use Rattle.lisa_tree.specs.Statements as stmts
use Rattle.lisa_tree.specs.Statements.{StmtTree, StmtTrees}
use Rattle.lisa_tree.specs.Descriptions.{DescriptionTree}
use Rattle.lisa_tree.specs.Operations.{sections_at, behavior_in}
use Rattle.description_places.specs.declared.scopes.Local.{Local}
use Rattle.description_places.specs.declared.sites.Region.{Region}
use Rattle.description_places.specs.Places.{uses, targets}
use Rattle.description_places.specs.Scopes.{Scope}
use Rattle.lisa_machine.specs.Freedom.{AllStand}
use Rattle.lowered_words.specs.instruction_forms.Trees.{FormTree}
use Rattle.step_program.specs.Programs.{Program}
use Rattle.step_program.specs.Effects as steps
use Rattle.typed_values.specs.Laws.{HasNumbers}
use Rattle.lowered_resources.specs.lisa_meaning.Moments.{Moment}
use Rattle.lowered_resources.specs.lisa_meaning.Scenes.{Link, Scene, instruction_with}
use Rattle.lowered_statements.specs.Scopes.{Names}
use Rattle.lowered_resources.specs.Holding.{Holds}
use Rattle.lowered_words.specs.Ways.{Way, part_by}
use Rattle.lowered_words.specs.Rows.{HasRow}
use Rattle.lowered_behaviors.specs.Standpoints.{Level, Standpoint}
use Rattle.lowered_behaviors.specs.Values.{Ground}

-- ---- scenes

abbrev pub part_of : Option FormTree → Option Way → Option FormTree
part_of form None = None
part_of form (Some way) = option_and_then (λ f. part_by f way) form

pub record IsLink (form : Option FormTree) (l : Level) (k : Link) : Type 0 where
  pub operation : k.operation ≡ l.operation
  pub part : k.part ≡ part_of form l.way

-- the same operations, each the part that forms have by its way
abbrev pub IsScene : Standpoint → Scene → Type 0
IsScene standpoint scene = AllZip (IsLink scene.form) standpoint scene.path

-- the word of the scene is that of the row; without a row there is none
abbrev pub HasWord : DescriptionTree → (width : ℕ) → (row : Option ℕ) → Scene → steps.Moment → Type 0
HasWord d width None scene now = (scene.form ≡ None) × (scene.word ≡ 0)
HasWord d width (Some base) scene now = HasRow d base scene.word now × (scene.word < 2 ^ width) × (scene.form ≡ instruction_with d scene.word)

-- a moment of a step program in which something runs in a scene
pub record HoldsIn (g : Ground) (scene : Scene) (p : Program) (before pins : List ℕ) (m : Moment) (now : steps.Moment) : Type 0 where
  pub holds : Holds g.description g.places p before pins m now
  pub word : HasWord g.description g.width g.row scene now

-- ---- what stands in an operation

-- the locals of a scope have these names and types
pub record IsNamed (one : List ℕ × Shape) (entry : List ℕ × Local) : Type 0 where
  pub name : entry.0 ≡ one.0
  pub shape : entry.1.shape ≡ one.1

abbrev pub AreNames : Names → Scope → Type 0
AreNames names scope = AllZip IsNamed names scope

-- an expression that stands there where these locals are in scope
abbrev pub IsRead : DescriptionTree → ℕ → Region → Names → ExprTree → Type 0
IsRead d o region names e = (scope : Scope) × AreNames names scope × AllStand d (uses o region scope e)

abbrev pub IsAssigned : DescriptionTree → ℕ → Region → Names → ExprTree → Type 0
IsAssigned d o region names e = (scope : Scope) × AreNames names scope × AllStand d (targets o region scope e)

-- ---- numbers

abbrev pub HasFirstNumbers : Option ExprTree → Type 0
HasFirstNumbers None = ⊤
HasFirstNumbers (Some e) = HasNumbers e

-- each number in a statement that is lowered is below 2 ^ 64, as each that is spelled is; a loop's bounds are numbers of their own
abbrev mutual
  pub HasNumbersIn : StmtTree → Type 0
  HasNumbersIn stmts.Empty = ⊤
  HasNumbersIn (stmts.Block all) = HaveNumbersIn all
  HasNumbersIn (stmts.Local shape n e) = HasFirstNumbers e
  HasNumbersIn (stmts.Assign target e) = HasNumbers target × HasNumbers e
  HasNumbersIn (stmts.If test chosen) = HasNumbers test × HasNumbersIn chosen
  HasNumbersIn (stmts.IfElse test chosen other) = HasNumbers test × HasNumbersIn chosen × HasNumbersIn other
  HasNumbersIn (stmts.While test body) = ⊤
  HasNumbersIn (stmts.For head body) = HasNumbersIn body
  HasNumbersIn (stmts.Call n) = ⊤
  HasNumbersIn (stmts.Stall pipe stage) = ⊤
  HasNumbersIn (stmts.Flush pipe stage) = ⊤
  HasNumbersIn (stmts.Execute pipe) = ⊤
  HasNumbersIn (stmts.Shift pipe) = ⊤

  pub HaveNumbersIn : StmtTrees → Type 0
  HaveNumbersIn stmts.End = ⊤
  HaveNumbersIn (stmts.Then s rest) = HasNumbersIn s × HaveNumbersIn rest

abbrev pub HaveNumbersInBehaviors : DescriptionTree → Type 0
HaveNumbersInBehaviors d = (o : ℕ) (all : StmtTrees) → behavior_in (sections_at d o) ≡ Some all → HaveNumbersIn all
