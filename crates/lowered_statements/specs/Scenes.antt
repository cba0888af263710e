-- Scenes in which statements run: what their steps are made of there, and what calls lead to. On the way to the program: nothing here needs to be trusted.
use Rattle.std.specs.Prelude.{ℕ, zero, suc, List, [], ◌∷◌, Option, None, Some}
use Rattle.lisa_tree.specs.Statements.{StmtTrees}
use Rattle.step_program.specs.declared.expressions.TwoOp.TheVariants as ops
use Rattle.step_program.specs.Programs.{Expr, Temp, Two}
use Rattle.step_pieces.specs.Pieces.{Piece, nothing, behind, top, held}
use Rattle.lowered_statements.specs.Ways.{Reads, Puts, Guarded, Ways}
use Rattle.lowered_statements.specs.Stated.{stated_all}

pub record Scenes (S : Type 0) : Type 0 where
  pub reads : S → Reads
  pub puts : S → Puts
  -- by the stage's name
  pub stalls : S → Guarded
  pub flushes : S → Guarded
  -- By a child's name: the scenes of what is called, one after the other, each with one bit that says whether it is, or none where it
  -- always is.
  pub callees : S → List ℕ → List (S × Option Expr)
  -- what a call runs
  pub body : S → StmtTrees

-- the ways of a scene, where it is known what calls do
abbrev pub ways_of : {S : Type 0} → Scenes S → (S → Guarded) → S → Ways
ways_of scenes calls scene = record {
  reads = scenes.reads scene;
  puts = scenes.puts scene;
  calls = calls scene;
  stalls = scenes.stalls scene;
  flushes = scenes.flushes scene;
}

-- ---- calls

-- the statements of a scene that is called, which begin without locals
abbrev pub body_piece : {S : Type 0} → Scenes S → (S → Guarded) → S → (guard : Expr) → ℕ → Piece
body_piece scenes calls scene guard from = (stated_all (ways_of scenes calls scene) [] guard from (scenes.body scene)).piece

-- one more temp holds the guard and the test
abbrev pub test_piece : (guard test : Expr) → ℕ → Piece
test_piece guard test from = held from nothing 1 (Two ops.And guard test)

abbrev pub call_piece : {S : Type 0} → Scenes S → (S → Guarded) → S → Option Expr → (guard : Expr) → ℕ → Piece
call_piece scenes calls scene None guard from = body_piece scenes calls scene guard from
call_piece scenes calls scene (Some test) guard from =
    behind (test_piece guard test from) (body_piece scenes calls scene (Temp (top from nothing)) (top from (test_piece guard test from)))

-- one after the other
abbrev pub calls_piece : {S : Type 0} → Scenes S → (S → Guarded) → (guard : Expr) → ℕ → List (S × Option Expr) → Piece
calls_piece scenes calls guard from [] = nothing
calls_piece scenes calls guard from (c ∷ cs) =
    let x = call_piece scenes calls c.0 c.1 guard from in
    behind x (calls_piece scenes calls guard (top from x) cs)

-- calls that are so many levels deep; a deeper one does nothing
abbrev pub calls_within : {S : Type 0} → Scenes S → (levels : ℕ) → S → Guarded
calls_within scenes zero scene guard from n = nothing
calls_within scenes (suc levels) scene guard from n = calls_piece scenes (calls_within scenes levels) guard from (scenes.callees scene n)

abbrev pub ways_within : {S : Type 0} → Scenes S → (levels : ℕ) → S → Ways
ways_within scenes levels scene = ways_of scenes (calls_within scenes levels) scene
