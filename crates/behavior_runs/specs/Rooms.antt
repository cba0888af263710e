-- For how many locals behaviours need room.
use Rattle.std.specs.Prelude.{ℕ, suc, ◌+◌, ◌*◌, max, List, [], ◌∷◌}
use Rattle.lisa_tree.specs.Statements as stmts
use Rattle.lisa_tree.specs.Statements.{StmtTree, StmtTrees}
use Rattle.lisa_tree.specs.Descriptions as trees
use Rattle.lisa_tree.specs.Descriptions.{SectionTree, OperationTree, DescriptionTree}
use Rattle.moment_stores.specs.description_sizes.Texts.{levels}

abbrev mutual
  -- how many locals a statement declares, those of its parts among them
  pub locals_in : StmtTree → ℕ
  locals_in stmts.Empty = 0
  locals_in (stmts.Block all) = all_locals all
  locals_in (stmts.Local shape name value) = 1
  locals_in (stmts.Assign place value) = 0
  locals_in (stmts.If test chosen) = locals_in chosen
  locals_in (stmts.IfElse test chosen other) = locals_in chosen + locals_in other
  locals_in (stmts.While test body) = locals_in body
  locals_in (stmts.For head body) = suc (locals_in body)
  locals_in (stmts.Call name) = 0
  locals_in (stmts.Stall pipe stage) = 0
  locals_in (stmts.Flush pipe stage) = 0
  locals_in (stmts.Execute pipe) = 0
  locals_in (stmts.Shift pipe) = 0

  pub all_locals : StmtTrees → ℕ
  all_locals stmts.End = 0
  all_locals (stmts.Then s rest) = locals_in s + all_locals rest

-- the most that one BEHAVIOR declares
abbrev pub section_locals : SectionTree → ℕ
section_locals (trees.Behavior all) = all_locals all
section_locals _ = 0

abbrev pub sections_locals : List SectionTree → ℕ
sections_locals [] = 0
sections_locals (s ∷ rest) = max (section_locals s) (sections_locals rest)

abbrev pub operations_locals : List OperationTree → ℕ
operations_locals [] = 0
operations_locals (o ∷ rest) = max (sections_locals o.sections) (operations_locals rest)

abbrev pub most_locals : DescriptionTree → ℕ
most_locals d = operations_locals d.operations

-- No path of calls has more levels.
abbrev pub room_for : DescriptionTree → ℕ
room_for d = levels d * most_locals d
