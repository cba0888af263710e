-- The levels fall with each call, and between calls the statements' depth. What is left to state gives the same in the end.
use Rattle.std.proofs.Common.{◌≡◌, ℕ, ◌+◌, ◌-◌, ◌*◌, ◌<◌, ◌++◌, drop, map, take, length, Some}
use Rattle.lisa_tree.specs.Statements.{stmt_tree, stmt_trees, stmt_depth, stmts_depth}
use Rattle.step_program.specs.Programs.{move_of}
use Rattle.step_pieces.specs.Pieces.{behind}
use Rattle.step_pieces.specs.Drafts.{leaf_tree, piece_of}
use Rattle.lowered_statements.specs.Scenes.{calls_piece, calls_within, ways_within}
use Rattle.lowered_statements.specs.Stated.{all_moves, stated, stated_all, turn_moves}
use Rattle.lowered_statements.specs.Code.{base, callee_of, scope_of}
use Rattle.lowered_statements.proofs.Work.{work}
use Rattle.lowered_statements.proofs.statements.+statements.Given as goal

abbrev pub decreases-state : goal.decreases-state
decreases-state g l = work (g.L.Lowers.depth l.lowers.now) l.levels (stmt_depth (stmt_tree l.statement.now)) 0

abbrev pub decreases-state_body : goal.decreases-state_body
decreases-state_body g l = work (g.L.Lowers.depth l.lowers.now) l.levels (stmt_depth (stmt_tree l.body.now)) 1

abbrev pub decreases-state_block : goal.decreases-state_block
decreases-state_block g l = work (g.L.Lowers.depth l.lowers.now) l.levels (stmts_depth (stmt_trees l.all.now)) 2

abbrev pub decreases-state_all : goal.decreases-state_all
decreases-state_all g l = work (g.L.Lowers.depth l.lowers.now) l.levels (stmts_depth (stmt_trees l.all.now)) 1

abbrev pub decreases-state_turns : goal.decreases-state_turns
decreases-state_turns g l = work (g.L.Lowers.depth l.lowers.now) l.levels (stmt_depth (stmt_tree l.body.now)) 2

abbrev pub decreases-state_loop : goal.decreases-state_loop
decreases-state_loop g l = work (g.L.Lowers.depth l.lowers.now) l.levels (stmt_depth (stmt_tree l.body.now)) 3

abbrev pub decreases-state_calls : goal.decreases-state_calls
decreases-state_calls g l = work (g.L.Lowers.depth l.lowers.now) l.levels 0 4

abbrev pub decreases-state_callee : goal.decreases-state_callee
decreases-state_callee g l = work (g.L.Lowers.depth l.lowers.now) l.levels (g.L.Lowers.depth l.lowers.now) 3

abbrev pub decreases-state_scene : goal.decreases-state_scene
decreases-state_scene g l = work (g.L.Lowers.depth l.lowers.now) l.levels (g.L.Lowers.depth l.lowers.now) 2

abbrev pub invariant-state_all-each : goal.invariant-state_all-each
invariant-state_all-each g l =
    let ways = ways_within (g.L.Lowers.scenes l.lowers) l.levels l.scene in
    record {
      draft : behind (piece_of l.draft) (stated_all ways (scope_of l.locals) (leaf_tree l.guard) (base l.draft) (stmt_trees (drop l.statement-index l.all))).piece
          ≡ behind (piece_of l.fn.draft) (stated_all ways (scope_of l.fn.locals) (leaf_tree l.guard) (base l.fn.draft) (stmt_trees l.all)).piece;
      scope : (stated_all ways (scope_of l.locals) (leaf_tree l.guard) (base l.draft) (stmt_trees (drop l.statement-index l.all))).scope
          ≡ (stated_all ways (scope_of l.fn.locals) (leaf_tree l.guard) (base l.fn.draft) (stmt_trees l.all)).scope;
    }

abbrev pub invariant-state_turns-turns : goal.invariant-state_turns-turns
invariant-state_turns-turns g l =
    let body = (stated (ways_within (g.L.Lowers.scenes l.lowers) l.levels l.scene) (scope_of l.fn.locals) (leaf_tree l.guard) (base l.fn.draft) (stmt_tree l.body)).piece in
    record {
      first : take l.count l.draft.temps.items ≡ l.fn.draft.temps.items;
      temps : 0 < l.turn → l.draft.temps.items ≡ l.fn.draft.temps.items ++ body.widths;
      moves : map move_of l.draft.steps.items ++ all_moves (turn_moves l.temp (Some l.shape) body) l.bounds l.turn (l.turns - l.turn)
          ≡ map move_of l.fn.draft.steps.items ++ all_moves (turn_moves l.temp (Some l.shape) body) l.bounds 0 l.turns;
      scope : scope_of l.locals ≡ scope_of l.fn.locals;
    }

abbrev pub invariant-state_calls-called : goal.invariant-state_calls-called
invariant-state_calls-called g l =
    let scenes = g.L.Lowers.scenes l.lowers in
    behind (piece_of l.draft) (calls_piece scenes (calls_within scenes (l.levels - 1)) (leaf_tree l.guard) (base l.draft) (map callee_of (drop l.callee-index l.callee-items)))
    ≡ behind (piece_of l.fn.draft) (calls_within scenes l.levels l.scene (leaf_tree l.guard) (base l.fn.draft) l.name)
