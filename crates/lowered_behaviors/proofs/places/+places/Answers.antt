use Rattle.std.proofs.Common.{ℕ, ◌+◌, ◌-◌, ◌<◌, suc, List, [], drop, get_or, map, sym, ap, ap₂, ◌∙◌, arith}
use Rattle.lisa_tree.specs.Expressions.{expr_tree}
use Rattle.step_pieces.specs.Pieces.{nothing, behind, top}
use Rattle.step_pieces.specs.Drafts.{leaf_tree, piece_of}
use Rattle.lowered_statements.specs.Scopes.{Scope}
use Rattle.lowered_statements.specs.Code.{given_of, scope_of}
use Rattle.lowered_resources.specs.Putting.{Stores, puts}
use Rattle.lowered_behaviors.specs.Standpoints.{Standpoint, own_way, running}
use Rattle.lowered_behaviors.specs.Behaviors.{done_by_all, puts_with, puts_within, reads_at}
use Rattle.lowered_behaviors.specs.Code.{declared_place, ground_of, guard_out, guard_piece, stored_within}
use Rattle.lowered_behaviors.specs.Positions.{standpoint_of, stood}
use Rattle.lowered_behaviors.proofs.Standing.{stood_below}
use Rattle.lowered_behaviors.proofs.Acted.{item_at, none_left, all_added, done_more}
use Rattle.lowered_behaviors.proofs.Placed.{puts_apart, puts_stored}
use Rattle.lowered_behaviors.proofs.Levels.{not_stored, one_stored}
use Rattle.lowered_behaviors.proofs.places.+places.Goals as goal

pub put_child-each-init : goal.put_child-each-init
put_child-each-init g t c =
    let ground = ground_of g.P.Placing.places c.args.ground.now in
    let act = stored_within c.args.more ground (given_of c.args.given) in
    let old = piece_of c.args.draft.now in
    ap (λ (all : List Standpoint). behind old (done_by_all ground act (leaf_tree c.args.guard) (top 0 old) all))
    (stood_below ground.description c.args.name.now c.args.positions.now c.home-home.result.now c.child_alternatives-reach.result.reach c.child_alternatives-reach.result.operations.now c.home-home.ensures c.child_alternatives-reach.ensures)

pub put_child-returns : goal.put_child-returns
put_child-returns g t c =
    let ground = ground_of g.P.Placing.places c.args.ground.now in
    let act = stored_within c.args.more ground (given_of c.args.given) in
    let now = piece_of c.each.draft in
    let none = none_left (stood ground.description c.child_alternatives-reach.result.reach c.home-home.result.now) c.child_alternatives-reach.result.operations.now c.each.operation-index (omega arith) in
    all_added (piece_of c.args.draft.now) now _
    (ap (λ (rest : List Standpoint). behind now (done_by_all ground act (leaf_tree c.args.guard) (top 0 now) rest)) (sym none) ∙ c.each.invariant)

pub put_child-each-preserved : goal.put_child-each-preserved
put_child-each-preserved g t c =
    let ground = ground_of g.P.Placing.places c.args.ground.now in
    let act = stored_within c.args.more ground (given_of c.args.given) in
    let guard = leaf_tree c.args.guard in
    let reach = c.child_alternatives-reach.result.reach in
    let all = c.child_alternatives-reach.result.operations.now in
    let home = c.home-home.result.now in
    let i = c.each.operation-index in
    let now = piece_of c.each.draft in
    let left = item_at (stood ground.description reach home) all i 0 c.each-test.true in
    done_more ground act guard now (piece_of c.guard_on.new.draft) (piece_of c.put_expression.new.draft) _ (stood ground.description reach home (get_or all i 0)) (map (stood ground.description reach home) (drop (i + 1) all))
    (ap (λ (rest : List Standpoint). behind now (done_by_all ground act guard (top 0 now) rest)) (sym left) ∙ c.each.invariant)
    (c.in_ok-on.ensures.draft ∙ ap (λ at. behind now (guard_piece ground guard (own_way (standpoint_of ground.description at)) (top 0 now))) (c.deref.ensures.value ∙ c.in_ok-at.ensures))
    (c.in_ok-put_expression.ensures
    ∙ ap₂ (λ at e. behind (piece_of c.guard_on.new.draft) (act (standpoint_of ground.description at) e (top 0 (piece_of c.guard_on.new.draft)))) (c.deref-in-each.ensures.value ∙ c.in_ok-at.ensures)
    (c.in_ok-on.ensures.out ∙ ap (λ at. guard_out guard (own_way (standpoint_of ground.description at)) (top 0 now)) (c.deref.ensures.value ∙ c.in_ok-at.ensures)))

-- ---- one place

pub put_below-returns-in_ok-put_child-in-Some : goal.put_below-returns-in_ok-put_child-in-Some
put_below-returns-in_ok-put_child-in-Some g t c =
    let ground = ground_of g.P.Placing.places c.args.ground.now in
    let standpoint = standpoint_of ground.description c.args.positions.now in
    let scope = scope_of c.args.locals.now in
    let old = piece_of c.args.draft.now in
    let target = expr_tree c.args.target.now in
    c.in_ok-put_child-in-Some.ensures
    ∙ ap (behind old) (puts_stored ground.description ground.places (reads_at ground standpoint) (leaf_tree c.args.guard) (top 0 old) (given_of c.args.given)
    (puts_with ground (λ at guard from place x. puts_within c.args.more ground at [] guard from place x) standpoint) (running standpoint) scope target c.in-Some.name.now
    (ap (λ (o : ℕ). declared_place ground.description o scope target) (sym (c.running-operation.ensures ground.description)) ∙ sym c.in-Some.ensures))

pub put_below-returns-in_ok-put-in-None : goal.put_below-returns-in_ok-put-in-None
put_below-returns-in_ok-put-in-None g t c =
    let ground = ground_of g.P.Placing.places c.args.ground.now in
    let d = ground.description in
    let standpoint = standpoint_of d c.args.positions.now in
    let scope = scope_of c.args.locals.now in
    let old = piece_of c.args.draft.now in
    let target = expr_tree c.args.target.now in
    let none : Stores = λ n guard from x. nothing in
    c.in_ok-put-in-None.ensures
    ∙ ap (λ (o : ℕ). behind old (puts d ground.places (reads_at ground standpoint) none o scope (leaf_tree c.args.guard) (top 0 old) target (given_of c.args.given))) (c.running-operation.ensures d)
    ∙ ap (behind old) (puts_apart d ground.places (reads_at ground standpoint) (leaf_tree c.args.guard) (top 0 old) (given_of c.args.given) none
    (puts_with ground (λ at guard from place x. puts_within c.args.more ground at [] guard from place x) standpoint) (running standpoint) scope target
    (ap (λ (o : ℕ). declared_place d o scope target) (sym (c.running-operation.ensures d)) ∙ sym c.in-None.ensures))

-- ---- an EXPRESSION as a place

pub put_expression-returns-in-None : goal.put_expression-returns-in-None
put_expression-returns-in-None g t c =
    let ground = ground_of g.P.Placing.places c.args.ground.now in
    not_stored ground (standpoint_of ground.description c.args.at.now) c.running.result (c.running.ensures ground.description) (given_of c.args.given) (leaf_tree c.args.guard) c.args.more (piece_of c.args.draft.now) c.in-None.ensures

pub put_expression-returns-in_ok-put_below-in-Some : goal.put_expression-returns-in_ok-put_below-in-Some
put_expression-returns-in_ok-put_below-in-Some g t c =
    let ground = ground_of g.P.Placing.places c.args.ground.now in
    let at = standpoint_of ground.description c.args.at.now in
    let old = piece_of c.args.draft.now in
    let guard = leaf_tree c.args.guard in
    let e = expr_tree c.in-Some.place.now in
    let some : 0 < c.args.more = omega arith in
    c.in_ok-put_below-in-Some.ensures
    ∙ ap (λ (s : Scope). behind old (puts_within (suc (c.args.more - 1)) ground at s guard (top 0 old) e (given_of c.args.given))) c.new-none.ensures
    ∙ ap (behind old) (one_stored ground at c.running.result (c.running.ensures ground.description) (given_of c.args.given) guard c.args.more (top 0 old) e some c.in-Some.ensures)
