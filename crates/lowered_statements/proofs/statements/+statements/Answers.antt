use Rattle.std.proofs.Common.{◌≡◌, ℕ, ◌+◌, ◌-◌, ◌*◌, ◌<◌, List, [], ◌∷◌, ◌++◌, Option, None, Some, length, take, drop, map, option_map, sym, ap, ap₂, ◌∙◌, subst, arith, rules}
use Rattle.std.proofs.Math.Seq.{take-append_seam}
use Rattle.lisa_words.specs.declared.words.Kind.{Kind}
use Rattle.lisa_tree.specs.Expressions.{expr_tree}
use Rattle.std.specs.Global.{Box}
use Rattle.lisa_tree.specs.declared.statements.Stmt.{Stmt}
use Rattle.lisa_tree.specs.declared.statements.Stmt.TheVariants as stmts
use Rattle.lisa_tree.specs.Statements as trees
use Rattle.lisa_tree.specs.Statements.{StmtTree, StmtTrees, head_tree, stmt_tree, stmt_trees, stmt_depth, stmts_depth}
use Rattle.description_places.specs.Literals.{literal}
use Rattle.shape_checks.specs.declared.bounds.Bounds.{Bounds}
use Rattle.shape_checks.specs.Bounds.{bounds_of}
use Rattle.step_program.specs.Programs.{Expr, Temp}
use Rattle.step_pieces.specs.Pieces.{Piece, nothing, behind, top}
use Rattle.step_pieces.specs.declared.leaves.Leaf.{Leaf}
use Rattle.lowered_values.specs.Operands.{Operand}
use Rattle.step_pieces.specs.Drafts.{leaf_tree, piece_of}
use Rattle.lowered_statements.specs.Scopes.{Local, Scope, entered}
use Rattle.lowered_statements.specs.Scenes.{body_piece, call_piece, calls_piece, calls_within, test_piece, ways_within}
use Rattle.lowered_statements.specs.Stated.{given, stated, stated_all, turn_moves}
use Rattle.lowered_statements.specs.Code.{base, branch_piece, callee_of, local_of, on_piece, scope_of}
use Rattle.lowered_statements.proofs.Blocks.{block_is, stated_block}
use Rattle.lowered_statements.proofs.Branches.{chosen_is, both_are}
use Rattle.lowered_statements.proofs.Drafted.{then_adds, both_add, one_left, all_left, more_adds, more_scope, each_more, item_more, deeper, called_more}
use Rattle.lowered_statements.proofs.Turned.{turn_widths, turn_moved, moves_more, first_kept, loop_done}
use Rattle.lowered_statements.proofs.Work.{body_less, depth_at}
use Rattle.lowered_statements.proofs.statements.+statements.Goals as goal

-- ---- blocks

pub state-state_block-requires : goal.state-state_block-requires
state-state_block-requires g t c κs within =
    let depth = ap stmt_depth (block_is c.args.statement.now c.in-Block.all c.as_slice.result.now c.in-Block.is c.as_slice.ensures.value) in
    (omega (arith, c.decreases, depth), (within.0, (within.1, omega (arith, c.requires, depth))))

pub state-returns-in_ok-state_block-in-Block-clause-draft : goal.state-returns-in_ok-state_block-in-Block-clause-draft
state-returns-in_ok-state_block-in-Block-clause-draft g t c =
    let ways = ways_within (g.L.Lowers.scenes c.args.lowers.now) c.args.levels c.args.scene.now in
    let old = c.args.draft.now in
    let tree = block_is c.args.statement.now c.in-Block.all c.as_slice.result.now c.in-Block.is c.as_slice.ensures.value in
    c.in_ok-state_block-in-Block.ensures.draft
    ∙ ap (λ (s : StmtTree). behind (piece_of old) (stated ways (scope_of c.args.locals.now) (leaf_tree c.args.guard) (base old) s).piece) (sym tree)

pub state-returns-in_ok-state_block-in-Block-clause-scope : goal.state-returns-in_ok-state_block-in-Block-clause-scope
state-returns-in_ok-state_block-in-Block-clause-scope g t c =
    let ways = ways_within (g.L.Lowers.scenes c.args.lowers.now) c.args.levels c.args.scene.now in
    let tree = block_is c.args.statement.now c.in-Block.all c.as_slice.result.now c.in-Block.is c.as_slice.ensures.value in
    c.in_ok-state_block-in-Block.ensures.scope
    ∙ ap (λ (s : StmtTree). (stated ways (scope_of c.args.locals.now) (leaf_tree c.args.guard) (base c.args.draft.now) s).scope) (sym tree)

pub state_body-returns-clause-scope : goal.state_body-returns-clause-scope
state_body-returns-clause-scope g t c =
    let ways = ways_within (g.L.Lowers.scenes c.args.lowers.now) c.args.levels c.args.scene.now in
    c.leave.ensures ∙ ap₂ (λ (n : ℕ) (s : Scope). take n s) c.count-outer.ensures c.in_ok-state.ensures.scope
    ∙ one_left ways (scope_of c.args.locals.now) (leaf_tree c.args.guard) (base c.args.draft.now) (stmt_tree c.args.body.now)

pub state_block-returns-clause-scope : goal.state_block-returns-clause-scope
state_block-returns-clause-scope g t c =
    let ways = ways_within (g.L.Lowers.scenes c.args.lowers.now) c.args.levels c.args.scene.now in
    c.leave.ensures ∙ ap₂ (λ (n : ℕ) (s : Scope). take n s) c.count-outer.ensures c.in_ok-state_all.ensures.scope
    ∙ all_left ways (scope_of c.args.locals.now) (leaf_tree c.args.guard) (base c.args.draft.now) (stmt_trees c.args.all.now)

-- ---- assignments and branches

pub state-returns-in_ok-put-in-Assign-clause-draft : goal.state-returns-in_ok-put-in-Assign-clause-draft
state-returns-in_ok-put-in-Assign-clause-draft g t c =
    let scene = c.args.scene.now in
    let scenes = g.L.Lowers.scenes c.args.lowers.now in
    let ways = ways_within scenes c.args.levels scene in
    let old = c.args.draft.now in
    let scope = scope_of c.args.locals.now in
    let guard = leaf_tree c.args.guard in
    let target = expr_tree c.in-Assign.target in
    let value = expr_tree c.in-Assign.value in
    let is : stmt_tree c.args.statement.now ≡ trees.Assign target value = search rules in
    let x = scenes.reads scene scope (base old) value in
    let mid = piece_of c.whole.new.draft in
    then_adds (piece_of old) mid (piece_of c.put.new.draft) x.piece (λ from. scenes.puts scene scope guard from target (given (literal value) x.out))
    c.in_ok-given-in-Assign.ensures.draft
    (c.in_ok-put-in-Assign.ensures ∙ ap (λ (own : Kind → Operand). behind mid (scenes.puts scene scope guard (top 0 mid) target own)) c.in_ok-given-in-Assign.ensures.out)
    ∙ ap (λ (s : StmtTree). behind (piece_of old) (stated ways scope guard (base old) s).piece) (sym is)

pub state-returns-in_ok-state_body-in-None-clause-draft : goal.state-returns-in_ok-state_body-in-None-clause-draft
state-returns-in_ok-state_body-in-None-clause-draft g t c =
    let scene = c.args.scene.now in
    let scenes = g.L.Lowers.scenes c.args.lowers.now in
    let ways = ways_within scenes c.args.levels scene in
    let old = c.args.draft.now in
    let scope = scope_of c.args.locals.now in
    let guard = leaf_tree c.args.guard in
    let test = expr_tree c.in-If.test in
    let chosen = stmt_tree c.deref.result.now in
    let is = chosen_is c.args.statement.now c.in-If.test c.in-If.chosen c.in-If.other c.deref.result.now c.in-If.is c.in-None.is c.deref.ensures in
    let x = scenes.reads scene scope (base old) test in
    let mid = piece_of c.guard_on.new.draft in
    then_adds (piece_of old) mid (piece_of c.state_body.new.draft) (on_piece (scenes.reads scene) scope guard (base old) test) (λ from. (stated ways scope (Temp (top (base old) x.piece)) from chosen).piece)
    c.in_ok-on-in-None.ensures.draft
    (c.in_ok-state_body-in-None.ensures.draft
    ∙ ap (λ (e : Expr). behind mid (stated ways scope e (top 0 mid) chosen).piece) c.in_ok-on-in-None.ensures.out)
    ∙ ap (λ (s : StmtTree). behind (piece_of old) (stated ways scope guard (base old) s).piece) (sym is)

pub state-returns-in_ok-state_body-in-Some-2-clause-draft : goal.state-returns-in_ok-state_body-in-Some-2-clause-draft
state-returns-in_ok-state_body-in-Some-2-clause-draft g t c =
    let scene = c.args.scene.now in
    let scenes = g.L.Lowers.scenes c.args.lowers.now in
    let ways = ways_within scenes c.args.levels scene in
    let old = c.args.draft.now in
    let scope = scope_of c.args.locals.now in
    let guard = leaf_tree c.args.guard in
    let test = expr_tree c.in-If.test in
    let chosen = stmt_tree c.deref-in-Some.result.now in
    let other = stmt_tree c.deref-in-Some-2.result.now in
    let is = both_are c.args.statement.now c.in-If.test c.in-If.chosen c.in-If.other c.in-Some.other c.deref-in-Some.result.now c.deref-in-Some-2.result.now c.in-If.is c.in-Some.is c.deref-in-Some.ensures c.deref-in-Some-2.ensures in
    let x = scenes.reads scene scope (base old) test in
    let first = on_piece (scenes.reads scene) scope guard (base old) test in
    let tests = branch_piece (scenes.reads scene) scope guard (base old) test in
    let mid = piece_of c.guard_both.new.draft in
    let now = piece_of c.state_body-in-Some.new.draft in
    both_add (piece_of old) mid now (piece_of c.state_body-in-Some-2.new.draft) tests
    (λ from. (stated ways scope (Temp (top (base old) x.piece)) from chosen).piece) (λ from. (stated ways scope (Temp (top (base old) first)) from other).piece)
    c.in_ok-guards-in-Some.ensures.draft
    (c.in_ok-state_body-in-Some.ensures.draft
    ∙ ap (λ (e : Expr). behind mid (stated ways scope e (top 0 mid) chosen).piece) c.in_ok-guards-in-Some.ensures.on)
    (c.in_ok-state_body-in-Some-2.ensures.draft
    ∙ ap₂ (λ (s : Scope) (e : Expr). behind now (stated ways s e (top 0 now) other).piece) c.in_ok-state_body-in-Some.ensures.scope c.in_ok-guards-in-Some.ensures.off)
    ∙ ap (λ (s : StmtTree). behind (piece_of old) (stated ways scope guard (base old) s).piece) (sym is)

pub state-returns-in_ok-state_loop-in-For-clause-draft : goal.state-returns-in_ok-state_loop-in-For-clause-draft
state-returns-in_ok-state_loop-in-For-clause-draft g t c =
    let ways = ways_within (g.L.Lowers.scenes c.args.lowers.now) c.args.levels c.args.scene.now in
    let old = c.args.draft.now in
    let is : stmt_tree c.args.statement.now ≡ trees.For (head_tree c.deref-in-For.result.now) (stmt_tree c.deref-in-For-2.result.now) = search rules in
    c.in_ok-state_loop-in-For.ensures.draft
    ∙ ap (λ (s : StmtTree). behind (piece_of old) (stated ways (scope_of c.args.locals.now) (leaf_tree c.args.guard) (base old) s).piece) (sym is)

-- ---- statements, one after the other

pub state_all-state-requires : goal.state_all-state-requires
state_all-state-requires g t c κs within =
    let depth = depth_at c.args.all.now c.each.statement-index c.statement-item.result c.each-test.true c.statement-item.is in
    (omega (arith, c.decreases, depth), (within.0, (within.1, omega (arith, c.requires, depth))))

pub state_all-each-preserved : goal.state_all-each-preserved
state_all-each-preserved g t c =
    let ways = ways_within (g.L.Lowers.scenes c.args.lowers.now) c.args.levels c.args.scene.now in
    let guard = leaf_tree c.args.guard in
    let all = c.args.all.now in
    let i = c.each.statement-index in
    let s = c.statement-item.result in
    let now = c.each.draft in
    let new = c.state.new.draft in
    let scope = scope_of c.each.locals in
    let old = c.args.draft.now in
    let left = each_more all i s c.each-test.true c.statement-item.is in
    let whole = behind (piece_of old) (stated_all ways (scope_of c.args.locals.now) guard (base old) (stmt_trees all)).piece in
    let whole_scope = (stated_all ways (scope_of c.args.locals.now) guard (base old) (stmt_trees all)).scope in
    let is : behind (piece_of now) (stated_all ways scope guard (base now) (trees.Then (stmt_tree s) (stmt_trees (drop (i + 1) all)))).piece ≡ whole =
    ap (λ (rest : StmtTrees). behind (piece_of now) (stated_all ways scope guard (base now) rest).piece) (sym left) ∙ c.each.invariant.draft in
    let is_scope : (stated_all ways scope guard (base now) (trees.Then (stmt_tree s) (stmt_trees (drop (i + 1) all)))).scope ≡ whole_scope =
    ap (λ (rest : StmtTrees). (stated_all ways scope guard (base now) rest).scope) (sym left) ∙ c.each.invariant.scope in
    record {
      draft = more_adds ways scope (scope_of c.state.new.locals) guard (piece_of now) (piece_of new) whole (stmt_tree s) (stmt_trees (drop (i + 1) all)) is c.in_ok-state.ensures.draft c.in_ok-state.ensures.scope;
      scope = more_scope ways scope (scope_of c.state.new.locals) whole_scope guard (piece_of now) (piece_of new) (stmt_tree s) (stmt_trees (drop (i + 1) all)) is_scope c.in_ok-state.ensures.draft c.in_ok-state.ensures.scope;
    }

-- ---- loops

pub state_turns-turns-preserved : goal.state_turns-turns-preserved
state_turns-turns-preserved g t c =
    let ways = ways_within (g.L.Lowers.scenes c.args.lowers.now) c.args.levels c.args.scene.now in
    let guard = leaf_tree c.args.guard in
    let old = c.args.draft.now in
    let scope = scope_of c.args.locals.now in
    let inner = stmt_tree c.args.body.now in
    let temp = c.args.counter.0 in
    let shape = c.args.counter.1 in
    let b = c.args.counter.2 in
    let k = c.turns.turn in
    let bits = b.first + k * b.step in
    let at = λ (from : ℕ). (stated ways scope guard from inner).piece in
    let body = at (base old) in
    let now = piece_of c.turns.draft in
    let cut = piece_of c.release_temps.new.draft in
    let set = piece_of c.set_counter.new.draft in
    let new = piece_of c.state_body.new.draft in
    let widths : cut.widths ≡ (piece_of old).widths = ap (λ (a : Piece). a.widths) c.release_temps.ensures ∙ c.turns.invariant.first in
    let moves : cut.moves ≡ now.moves = ap (λ (a : Piece). a.moves) c.release_temps.ensures in
    let news : new ≡ behind set (at (top 0 set)) =
    c.in_ok-state_body.ensures.draft ∙ ap (λ (s : Scope). behind set (stated ways s guard (top 0 set) inner).piece) c.turns.invariant.scope in
    let wide = turn_widths (piece_of old) now cut set new at temp shape bits widths moves c.in_ok-set_counter.ensures news in
    let moved = turn_moved (piece_of old) now cut set new at temp shape bits widths moves c.in_ok-set_counter.ensures news in
    let counted : c.len-count.result ≡ length (piece_of old).widths = omega (arith, c.len-count.ensures, old.temps.ok.0) in
    record {
      first = first_kept c.len-count.result (piece_of old).widths new.widths body.widths counted wide;
      temps = λ some. wide;
      moves = moves_more (turn_moves temp (Some shape) body) b k c.turns-turns.result now.moves new.moves _ c.turns-test.true c.turns.invariant.moves moved;
      scope = c.in_ok-state_body.ensures.scope ∙ c.turns.invariant.scope;
    }

pub state_loop-returns-clause-draft : goal.state_loop-returns-clause-draft
state_loop-returns-clause-draft g t c =
    let ways = ways_within (g.L.Lowers.scenes c.args.lowers.now) c.args.levels c.args.scene.now in
    let old = c.args.draft.now in
    loop_done ways (scope_of c.args.locals.now) (scope_of c.enter.new.self) (leaf_tree c.args.guard) (head_tree c.args.head.now) (stmt_tree c.args.body.now)
    (piece_of old) (piece_of c.counter_at.new.draft) (piece_of c.state_turns.new.draft) c.in-Some-shape.shape c.in-Some.bounds (local_of c.in_ok-counter.counter)
    (search rules) (search rules) (search rules) c.in_ok-counter.ensures.draft c.in_ok-counter.ensures.out c.in_ok-enter.ensures c.in_ok-state_turns.ensures.draft

pub state_loop-returns-clause-scope : goal.state_loop-returns-clause-scope
state_loop-returns-clause-scope g t c =
    c.leave.ensures ∙ ap₂ (λ (n : ℕ) (s : Scope). take n s) c.count-outer.ensures (c.in_ok-state_turns.ensures.scope ∙ c.in_ok-enter.ensures)
    ∙ take-append_seam (scope_of c.args.locals.now) _

-- ---- calls

pub state_calls-state_callee-requires : goal.state_calls-state_callee-requires
state_calls-state_callee-requires g t c κs within =
    let most = g.L.Lowers.depth c.args.lowers.now in
    let less = body_less most c.args.levels most 3 4 (omega arith) (omega arith) (omega arith) in
    (omega (arith, c.decreases, less), within)

pub state_calls-called-init : goal.state_calls-called-init
state_calls-called-init g t c =
    let scenes = g.L.Lowers.scenes c.args.lowers.now in
    let old = c.args.draft.now in
    let guard = leaf_tree c.args.guard in
    let below = calls_within scenes (c.args.levels - 1) in
    ap (λ cs. behind (piece_of old) (calls_piece scenes below guard (base old) (map callee_of cs))) c.deref-callee-items.ensures.value
    ∙ ap (λ cs. behind (piece_of old) (calls_piece scenes below guard (base old) cs)) c.in_ok-callees.ensures
    ∙ ap (behind (piece_of old)) (sym (deeper scenes c.args.levels c.args.scene.now guard (base old) c.args.name.now (omega arith)))

pub state_calls-called-preserved : goal.state_calls-called-preserved
state_calls-called-preserved g t c =
    let scenes = g.L.Lowers.scenes c.args.lowers.now in
    let guard = leaf_tree c.args.guard in
    let below = calls_within scenes (c.args.levels - 1) in
    let now = c.called.draft in
    let items = c.deref-callee-items.result.now in
    let i = c.called.callee-index in
    let x = c.callee-item.result in
    let left = item_more callee_of items i x c.called-test.true c.callee-item.is in
    called_more scenes below guard (piece_of now) (piece_of c.state_callee.new.draft) _ (callee_of x) (map callee_of (drop (i + 1) items))
    (ap (λ cs. behind (piece_of now) (calls_piece scenes below guard (base now) cs)) (sym left) ∙ c.called.invariant) c.in_ok-state_callee.ensures

pub state_callee-returns-in_ok-state_scene-in-Some : goal.state_callee-returns-in_ok-state_scene-in-Some
state_callee-returns-in_ok-state_scene-in-Some g t c =
    let scenes = g.L.Lowers.scenes c.args.lowers.now in
    let calls = calls_within scenes c.args.levels in
    let guard = leaf_tree c.args.guard in
    let old = c.args.draft.now in
    let mid = piece_of c.guard_called.new.draft in
    let s = c.args.callee.now.scene in
    then_adds (piece_of old) mid (piece_of c.state_scene-in-Some.new.draft) (test_piece guard (leaf_tree c.in-Some.test) (base old)) (λ t. body_piece scenes calls s (Temp (top (base old) nothing)) t)
    c.in_ok-on-in-Some.ensures.draft
    (c.in_ok-state_scene-in-Some.ensures ∙ ap (λ (e : Expr). behind mid (body_piece scenes calls s e (top 0 mid))) c.in_ok-on-in-Some.ensures.out)
    ∙ ap (λ (o : Option Leaf). behind (piece_of old) (call_piece scenes calls s (option_map leaf_tree o) guard (base old))) (sym c.in-Some.is)
