-- Where `execute` and `shift` may stand: last in the outermost list of statements of `main`.
use Rattle.std.specs.Prelude.{Bool, true, false, cond, not, ◌||◌, ◌&&◌}
use Rattle.std.specs.List.{list_all}
use Rattle.lisa_tree.specs.Statements as stmts
use Rattle.lisa_tree.specs.Statements.{StmtTree, StmtTrees}
use Rattle.lisa_tree.specs.Descriptions as trees
use Rattle.lisa_tree.specs.Descriptions.{SectionTree, OperationTree, DescriptionTree}
use Rattle.lisa_tree.specs.Same.{same_name}
use Rattle.stage_checks.specs.Controls.{main_name}

-- an `execute` or a `shift`
abbrev pub is_close : StmtTree → Bool
is_close (stmts.Execute pipe) = true
is_close (stmts.Shift pipe) = true
is_close _ = false

-- a statement is one or has one in it
abbrev mutual
  pub holds : StmtTree → Bool
  holds stmts.Empty = false
  holds (stmts.Block all) = any_holds all
  holds (stmts.Local shape n value) = false
  holds (stmts.Assign target value) = false
  holds (stmts.If test chosen) = holds chosen
  holds (stmts.IfElse test chosen other) = holds chosen || holds other
  holds (stmts.While test body) = holds body
  holds (stmts.For head body) = holds body
  holds (stmts.Call n) = false
  holds (stmts.Stall pipe stage) = false
  holds (stmts.Flush pipe stage) = false
  holds (stmts.Execute pipe) = true
  holds (stmts.Shift pipe) = true

  pub any_holds : StmtTrees → Bool
  any_holds stmts.End = false
  any_holds (stmts.Then s rest) = holds s || any_holds rest

abbrev pub only_close : StmtTrees → Bool
only_close stmts.End = true
only_close (stmts.Then s rest) = is_close s && only_close rest

-- behind the first of them stand only such, and before it none is inside a statement
abbrev pub ends_well : StmtTrees → Bool
ends_well stmts.End = true
ends_well (stmts.Then s rest) = cond (is_close s) (only_close rest) (not (holds s) && ends_well rest)

abbrev pub section_closes : Bool → SectionTree → Bool
section_closes in_main (trees.Behavior all) = cond in_main (ends_well all) (not (any_holds all))
section_closes in_main _ = true

abbrev pub operation_closes : OperationTree → Bool
operation_closes operation = list_all (section_closes (same_name main_name operation.name)) operation.sections

abbrev pub closes_well : DescriptionTree → Bool
closes_well d = list_all operation_closes d.operations
