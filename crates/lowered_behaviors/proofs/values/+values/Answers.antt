use Rattle.std.proofs.Common.{ℕ, ◌+◌, ◌-◌, ◌<◌, suc, List, [], ◌∷◌, Option, drop, get_or, map, refl, sym, ap, ap₂, ◌∙◌, arith}
use Rattle.std.specs.Borrow.{Bor}
use Rattle.std.specs.Map.{lookup}
use Rattle.name_tables.specs.TableViews.{value_of}
use Rattle.lisa_tree.specs.Expressions.{expr_tree}
use Rattle.lisa_tree.specs.Same.{same_name}
use Rattle.step_pieces.specs.Pieces.{behind, top}
use Rattle.step_pieces.specs.Drafts.{piece_of}
use Rattle.lowered_values.specs.declared.operands.Source.{Source}
use Rattle.lowered_values.specs.Code.{plain}
use Rattle.lisa_tree.specs.declared.declared.Meaning.TheVariants as meanings
use Rattle.step_program.specs.Programs.{Expr, ToTemp}
use Rattle.lowered_values.specs.Operands.{Operand}
use Rattle.lowered_values.specs.Templates.{fitted}
use Rattle.lowered_values.specs.Computed.{Computed}
use Rattle.lowered_resources.specs.Putting.{moving, move_to}
use Rattle.lowered_statements.specs.Scopes.{Scope}
use Rattle.lowered_statements.specs.Code.{base, scope_of}
use Rattle.lowered_statements.proofs.Drafted.{none_adds, then_adds, item_more}
use Rattle.lowered_resources.specs.Reading.{Known, sources}
use Rattle.lowered_behaviors.specs.Standpoints.{Standpoint, alternatives_at, own_way, running}
use Rattle.lowered_behaviors.specs.Values.{chosen_value, declared_here, flag, known_of, name_here, prepared, value_within}
use Rattle.lowered_behaviors.specs.Code.{choice_piece, expressed_within, ground_of, prepared_within, texts_of}
use Rattle.lowered_behaviors.specs.Positions.{standpoint_of, stood}
use Rattle.lowered_behaviors.proofs.Standing.{home_is, stood_are}
use Rattle.lowered_behaviors.proofs.Acted.{item_at, none_left, all_added, chosen_more, child_adds, child_out}
use Rattle.lowered_behaviors.proofs.Preparing.{found_before, value_adds, value_out, prepared_more, known_more, all_known}
use Rattle.lowered_behaviors.proofs.Naming.{not_named, one_named, untyped_here}
use Rattle.lowered_behaviors.proofs.Levels.{not_expressed, one_expressed}
use Rattle.lowered_behaviors.proofs.values.+values.Goals as goal

-- ---- an expression behind its names

pub value_below-returns-clause-draft : goal.value_below-returns-clause-draft
value_below-returns-clause-draft g t c =
    let ground = ground_of g.P.Placing.places c.args.ground.now in
    let standpoint = standpoint_of ground.description c.args.positions.now in
    let scope = scope_of c.args.locals.now in
    let old = piece_of c.args.draft.now in
    let texts = ap texts_of c.deref.ensures.value ∙ c.in_ok-names.ensures in
    value_adds ground c.args.more standpoint scope (expr_tree c.args.e.now) old (piece_of c.prepare.new.draft) (piece_of c.compute_with.new.draft) _
    (c.in_ok-known.ensures.draft ∙ ap (λ (ns : List (List ℕ)). behind old (prepared_within c.args.more ground standpoint scope (top 0 old) ns).piece) texts)
    (ap (λ (k : Known). sources ground.description ground.places k (running standpoint) scope)
    (c.in_ok-known.ensures.known ∙ ap (λ (ns : List (List ℕ)). known_of ground (prepared_within c.args.more ground standpoint scope (top 0 old) ns)) texts))
    c.in_ok-source.ensures.draft

pub value_below-returns-clause-out : goal.value_below-returns-clause-out
value_below-returns-clause-out g t c =
    let ground = ground_of g.P.Placing.places c.args.ground.now in
    let standpoint = standpoint_of ground.description c.args.positions.now in
    let scope = scope_of c.args.locals.now in
    let old = piece_of c.args.draft.now in
    let texts = ap texts_of c.deref.ensures.value ∙ c.in_ok-names.ensures in
    value_out ground c.args.more standpoint scope (expr_tree c.args.e.now) old (piece_of c.prepare.new.draft) (piece_of c.compute_with.new.draft) _ (plain c.in_ok-source.source)
    (c.in_ok-known.ensures.draft ∙ ap (λ (ns : List (List ℕ)). behind old (prepared_within c.args.more ground standpoint scope (top 0 old) ns).piece) texts)
    (ap (λ (k : Known). sources ground.description ground.places k (running standpoint) scope)
    (c.in_ok-known.ensures.known ∙ ap (λ (ns : List (List ℕ)). known_of ground (prepared_within c.args.more ground standpoint scope (top 0 old) ns)) texts))
    c.in_ok-source.ensures.out

-- ---- names, one after the other

pub prepare-each-init : goal.prepare-each-init
prepare-each-init g t c =
    let ground = ground_of g.P.Placing.places c.args.ground.now in
    let made = prepared_within c.args.more ground (standpoint_of ground.description c.args.positions.now) (scope_of c.args.locals.now) (base c.args.draft.now) (texts_of c.args.names.now) in
    record {
      draft = refl;
      known = λ n. ap (λ (found : Option Source). found_before found (lookup (same_name n) made.known)) (c.new-known.ensures.names n);
      decoded = ap plain c.new-known.ensures.decoded ∙ c.in_ok-decodes.ensures;
    }

pub prepare-each-preserved : goal.prepare-each-preserved
prepare-each-preserved g t c =
    let ground = ground_of g.P.Placing.places c.args.ground.now in
    let standpoint = standpoint_of ground.description c.args.positions.now in
    let scope = scope_of c.args.locals.now in
    let one = name_here ground (expressed_within c.args.more ground) standpoint scope in
    let all = c.args.names.now in
    let i = c.each.name-index in
    let now = piece_of c.each.draft in
    let new = piece_of c.name_value.new.draft in
    let made = prepared_within c.args.more ground standpoint scope (base c.args.draft.now) (texts_of all) in
    let m = c.name-item.result.now in
    let left = item_more (λ (n : Bor (List ℕ)). n.now) all i c.name-item.result c.each-test.true c.name-item.is in
    record {
      draft = prepared_more one now new (behind (piece_of c.args.draft.now) made.piece) m (texts_of (drop (i + 1) all))
          (ap (λ (ns : List (List ℕ)). behind now (prepared one (top 0 now) ns).piece) (sym left) ∙ c.each.invariant.draft) c.in_ok-source.ensures.draft;
      known = λ n. known_more one now new n m (texts_of (drop (i + 1) all)) (value_of c.each.known.sources n) (value_of c.enter.new.self.sources n) c.in_ok-source.source (lookup (same_name n) made.known)
          (ap (λ (ns : List (List ℕ)). found_before (value_of c.each.known.sources n) (lookup (same_name n) (prepared one (top 0 now) ns).known)) (sym left) ∙ c.each.invariant.known n)
          (c.in_ok-enter.ensures.names n) c.in_ok-source.ensures.out c.in_ok-source.ensures.draft;
      decoded = ap plain c.in_ok-enter.ensures.decoded ∙ c.each.invariant.decoded;
    }

pub prepare-returns-clause-draft : goal.prepare-returns-clause-draft
prepare-returns-clause-draft g t c =
    let ground = ground_of g.P.Placing.places c.args.ground.now in
    let at = prepared_within c.args.more ground (standpoint_of ground.description c.args.positions.now) (scope_of c.args.locals.now) (base c.each.draft) in
    let none = none_left (λ (n : Bor (List ℕ)). n.now) c.args.names.now c.each.name-index (omega arith) in
    all_added (piece_of c.args.draft.now) (piece_of c.each.draft) _
    (ap (λ (ns : List (List ℕ)). behind (piece_of c.each.draft) (at ns).piece) (sym none) ∙ c.each.invariant.draft)

pub prepare-returns-clause-known : goal.prepare-returns-clause-known
prepare-returns-clause-known g t c =
    let ground = ground_of g.P.Placing.places c.args.ground.now in
    let standpoint = standpoint_of ground.description c.args.positions.now in
    let scope = scope_of c.args.locals.now in
    let at = prepared_within c.args.more ground standpoint scope (base c.each.draft) in
    let none = none_left (λ (n : Bor (List ℕ)). n.now) c.args.names.now c.each.name-index (omega arith) in
    all_known ground (prepared_within c.args.more ground standpoint scope (base c.args.draft.now) (texts_of c.args.names.now)) (λ n. value_of c.each.known.sources n) c.each.known.decoded
    (λ n. ap (λ (ns : List (List ℕ)). found_before (value_of c.each.known.sources n) (lookup (same_name n) (at ns).known)) (sym none) ∙ c.each.invariant.known n)
    c.each.invariant.decoded

-- ---- alternatives, one after the other

pub choose_all-each-init : goal.choose_all-each-init
choose_all-each-init g t c =
    let ground = ground_of g.P.Placing.places c.args.ground.now in
    let value = expressed_within c.args.more ground in
    let old = piece_of c.args.draft.now in
    ap (λ (all : List Standpoint). behind old (chosen_value value ground c.args.shape c.args.temp (top 0 old) all))
    (stood_are ground.description c.args.name.now c.args.home.now c.child_alternatives-reach.result.reach c.child_alternatives-reach.result.operations.now c.child_alternatives-reach.ensures)

pub choose_all-each-preserved : goal.choose_all-each-preserved
choose_all-each-preserved g t c =
    let ground = ground_of g.P.Placing.places c.args.ground.now in
    let value = expressed_within c.args.more ground in
    let reach = c.child_alternatives-reach.result.reach in
    let all = c.child_alternatives-reach.result.operations.now in
    let home = c.args.home.now in
    let i = c.each.operation-index in
    let now = piece_of c.each.draft in
    let left = item_at (stood ground.description reach home) all i 0 c.each-test.true in
    chosen_more value ground c.args.shape c.args.temp now (piece_of c.choose_value.new.draft) _ (stood ground.description reach home (get_or all i 0)) (map (stood ground.description reach home) (drop (i + 1) all))
    (ap (λ (rest : List Standpoint). behind now (chosen_value value ground c.args.shape c.args.temp (top 0 now) rest)) (sym left) ∙ c.each.invariant)
    (c.in_ok-choose_value.ensures
    ∙ ap (λ at. behind now (choice_piece value ground c.args.shape.width c.args.temp (top 0 now) (standpoint_of ground.description at))) (c.deref.ensures.value ∙ c.in_ok-at.ensures))

pub choose_all-returns : goal.choose_all-returns
choose_all-returns g t c =
    let ground = ground_of g.P.Placing.places c.args.ground.now in
    let value = expressed_within c.args.more ground in
    let now = piece_of c.each.draft in
    let none = none_left (stood ground.description c.child_alternatives-reach.result.reach c.args.home.now) c.child_alternatives-reach.result.operations.now c.each.operation-index (omega arith) in
    all_added (piece_of c.args.draft.now) now _
    (ap (λ (rest : List Standpoint). behind now (chosen_value value ground c.args.shape c.args.temp (top 0 now) rest)) (sym none) ∙ c.each.invariant)

-- ---- a name

pub name_value-returns-in-None-clause-draft : goal.name_value-returns-in-None-clause-draft
name_value-returns-in-None-clause-draft g t c =
    let ground = ground_of g.P.Placing.places c.args.ground.now in
    let old = piece_of c.args.draft.now in
    none_adds old old refl
    ∙ ap (λ (x : Computed). behind old x.piece) (sym (not_named ground (expressed_within c.args.more ground) (standpoint_of ground.description c.args.positions.now) (top 0 old) c.args.name.now
    (scope_of c.args.locals.now) c.running.result (c.running.ensures ground.description) c.in-None.ensures))

pub name_value-returns-in-None-clause-out : goal.name_value-returns-in-None-clause-out
name_value-returns-in-None-clause-out g t c =
    let ground = ground_of g.P.Placing.places c.args.ground.now in
    let old = piece_of c.args.draft.now in
    c.absent.ensures
    ∙ ap (λ (x : Computed). x.out) (sym (not_named ground (expressed_within c.args.more ground) (standpoint_of ground.description c.args.positions.now) (top 0 old) c.args.name.now
    (scope_of c.args.locals.now) c.running.result (c.running.ensures ground.description) c.in-None.ensures))

pub name_value-returns-in_ok-source-in-Some-clause-draft : goal.name_value-returns-in_ok-source-in-Some-clause-draft
name_value-returns-in_ok-source-in-Some-clause-draft g t c =
    let ground = ground_of g.P.Placing.places c.args.ground.now in
    let value = expressed_within c.args.more ground in
    let d = ground.description in
    let n = c.args.name.now in
    let old = piece_of c.args.draft.now in
    c.in_ok-source-in-Some.ensures.draft
    ∙ ap (λ (x : Computed). behind old x.piece)
    (ap (declared_here ground value (top 0 old) n (meanings.Declared c.in-Some.entry)) (ap (standpoint_of d) c.home-home.ensures ∙ home_is d n c.args.positions.now)
    ∙ one_named ground value (standpoint_of d c.args.positions.now) (top 0 old) n (scope_of c.args.locals.now) c.running.result (c.running.ensures d) c.in-Some.entry c.in-Some.ensures)

pub name_value-returns-in_ok-source-in-Some-clause-out : goal.name_value-returns-in_ok-source-in-Some-clause-out
name_value-returns-in_ok-source-in-Some-clause-out g t c =
    let ground = ground_of g.P.Placing.places c.args.ground.now in
    let value = expressed_within c.args.more ground in
    let d = ground.description in
    let n = c.args.name.now in
    let old = piece_of c.args.draft.now in
    c.in_ok-source-in-Some.ensures.out
    ∙ ap (λ (x : Computed). x.out)
    (ap (declared_here ground value (top 0 old) n (meanings.Declared c.in-Some.entry)) (ap (standpoint_of d) c.home-home.ensures ∙ home_is d n c.args.positions.now)
    ∙ one_named ground value (standpoint_of d c.args.positions.now) (top 0 old) n (scope_of c.args.locals.now) c.running.result (c.running.ensures d) c.in-Some.entry c.in-Some.ensures)

-- ---- the EXPRESSION of a child

pub expression_value-returns-in-None-clause-draft : goal.expression_value-returns-in-None-clause-draft
expression_value-returns-in-None-clause-draft g t c =
    let ground = ground_of g.P.Placing.places c.args.ground.now in
    let old = piece_of c.args.draft.now in
    none_adds old old refl
    ∙ ap (λ (x : Computed). behind old x.piece) (sym (not_expressed ground (standpoint_of ground.description c.args.at.now) c.running.result (c.running.ensures ground.description) c.args.more (top 0 old) c.in-None.ensures))

pub expression_value-returns-in-None-clause-out : goal.expression_value-returns-in-None-clause-out
expression_value-returns-in-None-clause-out g t c =
    let ground = ground_of g.P.Placing.places c.args.ground.now in
    let old = piece_of c.args.draft.now in
    c.absent.ensures
    ∙ ap (λ (x : Computed). x.out) (sym (not_expressed ground (standpoint_of ground.description c.args.at.now) c.running.result (c.running.ensures ground.description) c.args.more (top 0 old) c.in-None.ensures))

-- ---- the value of a child

pub choose_value-returns : goal.choose_value-returns
choose_value-returns g t c =
    let ground = ground_of g.P.Placing.places c.args.ground.now in
    let at = standpoint_of ground.description c.args.at.now in
    let old = piece_of c.args.draft.now in
    let now = piece_of c.expression_value.new.draft in
    let x = expressed_within c.args.more ground at (top 0 old) in
    then_adds old now (piece_of c.step.new.self) x.piece (λ t. moving (move_to (flag ground.description ground.row (own_way at)) (ToTemp c.args.temp) (fitted x.out c.args.width) ∷ [])) c.in_ok-source.ensures.draft
    (c.in_ok-step.ensures
    ∙ ap₂ (λ (e v : Expr). behind now (moving (move_to e (ToTemp c.args.temp) v ∷ []))) (c.expression.ensures ∙ c.in_ok-flag.ensures) (c.in_ok-value.ensures ∙ ap (λ (o : Operand). fitted o c.args.width) c.in_ok-source.ensures.out))

pub child_value-returns-clause-draft : goal.child_value-returns-clause-draft
child_value-returns-clause-draft g t c =
    let ground = ground_of g.P.Placing.places c.args.ground.now in
    child_adds (expressed_within c.args.more ground) ground c.args.shape (piece_of c.args.draft.now) c.word_width-width.result c.in_ok-temp.temp c.word_width-width.ensures.value c.in_ok-temp.ensures.temp
    (piece_of c.hold.new.self) (piece_of c.choose_all.new.draft) (alternatives_at ground.description c.args.name.now (standpoint_of ground.description c.args.home.now))
    c.in_ok-temp.ensures.draft c.in_ok-choose_all.ensures

pub child_value-returns-clause-out : goal.child_value-returns-clause-out
child_value-returns-clause-out g t c =
    let ground = ground_of g.P.Placing.places c.args.ground.now in
    child_out (expressed_within c.args.more ground) ground c.args.shape (piece_of c.args.draft.now) c.word_width-width.result c.in_ok-temp.temp c.word_width-width.ensures.value c.in_ok-temp.ensures.temp
    (alternatives_at ground.description c.args.name.now (standpoint_of ground.description c.args.home.now))

-- ---- a declared name

pub declared_value-returns-in-None-clause-draft : goal.declared_value-returns-in-None-clause-draft
declared_value-returns-in-None-clause-draft g t c =
    let ground = ground_of g.P.Placing.places c.args.ground.now in
    let old = piece_of c.args.draft.now in
    none_adds old old refl
    ∙ ap (λ (x : Computed). behind old x.piece) (sym (untyped_here ground (expressed_within c.args.more ground) (top 0 old) c.args.name.now c.args.entry (standpoint_of ground.description c.args.home.now)
    c.running.result c.is_label.result (c.running.ensures ground.description) c.is_label.ensures c.if-is_label.false c.in-None.ensures))

pub declared_value-returns-in-None-clause-out : goal.declared_value-returns-in-None-clause-out
declared_value-returns-in-None-clause-out g t c =
    let ground = ground_of g.P.Placing.places c.args.ground.now in
    let old = piece_of c.args.draft.now in
    c.absent.ensures
    ∙ ap (λ (x : Computed). x.out) (sym (untyped_here ground (expressed_within c.args.more ground) (top 0 old) c.args.name.now c.args.entry (standpoint_of ground.description c.args.home.now)
    c.running.result c.is_label.result (c.running.ensures ground.description) c.is_label.ensures c.if-is_label.false c.in-None.ensures))

pub expression_value-returns-in_ok-source-in-Some-clause-draft : goal.expression_value-returns-in_ok-source-in-Some-clause-draft
expression_value-returns-in_ok-source-in-Some-clause-draft g t c =
    let ground = ground_of g.P.Placing.places c.args.ground.now in
    let at = standpoint_of ground.description c.args.at.now in
    let old = piece_of c.args.draft.now in
    let e = expr_tree c.in-Some.e.now in
    let some : 0 < c.args.more = omega arith in
    c.in_ok-source-in-Some.ensures.draft
    ∙ ap (λ (s : Scope). behind old (value_within (suc (c.args.more - 1)) ground at s (top 0 old) e).piece) c.new-none.ensures
    ∙ ap (λ (x : Computed). behind old x.piece) (sym (one_expressed ground at c.running.result (c.running.ensures ground.description) c.args.more (top 0 old) e some c.in-Some.ensures))

pub expression_value-returns-in_ok-source-in-Some-clause-out : goal.expression_value-returns-in_ok-source-in-Some-clause-out
expression_value-returns-in_ok-source-in-Some-clause-out g t c =
    let ground = ground_of g.P.Placing.places c.args.ground.now in
    let at = standpoint_of ground.description c.args.at.now in
    let old = piece_of c.args.draft.now in
    let e = expr_tree c.in-Some.e.now in
    let some : 0 < c.args.more = omega arith in
    c.in_ok-source-in-Some.ensures.out
    ∙ ap (λ (s : Scope). (value_within (suc (c.args.more - 1)) ground at s (top 0 old) e).out) c.new-none.ensures
    ∙ ap (λ (x : Computed). x.out) (sym (one_expressed ground at c.running.result (c.running.ensures ground.description) c.args.more (top 0 old) e some c.in-Some.ensures))
