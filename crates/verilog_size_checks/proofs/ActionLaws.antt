-- Lists of actions, and what is found in them.
use Rattle.std.proofs.Common.{◌≡◌, ℕ, zero, suc, ◌+◌, ◌<◌, ◌≤◌, true, false, map, List, [], ◌∷◌, ◌++◌, length, get_or, drop, drop-cons, Option, Some, None, refl, sym, ap, ap₂, ◌∙◌, arith, append_assoc}
use Rattle.std.proofs.lemmas.List.{append-nil}
use Rattle.std.specs.Global.{Vec}
use Rattle.std.specs.Option.{option_or, is_some}
use Rattle.std.specs.Prelude.{flat_map}
use mathlib.Core.Former.{Count}
use Rattle.verilog_text.specs.Trees.{VTree, ActionTrees}
use Rattle.verilog_text.specs.Trees as plain
use Rattle.verilog_text.specs.Conditions.{expr_indexes, parts_indexes, action_indexes, member_indexes, targets}
use Rattle.verilog_text.specs.Values.{Widths}
use Rattle.verilog_text.specs.WidePlaces.{◌or_else◌}
use Rattle.verilog_places.specs.declared.expressions.PlacedExpr.{PlacedExpr, Join', Row_of-PlacedExpr, end_of-PlacedExpr, more_of-PlacedExpr, items-the_row-PlacedExpr, items_hidden-the_row-PlacedExpr-0}
use Rattle.verilog_places.specs.declared.expressions.PlacedExpr.TheVariants as exprs
use Rattle.verilog_places.specs.declared.modules.PlacedAction.{PlacedAction, If', Row_of-PlacedAction, end_of-PlacedAction, more_of-PlacedAction, items-the_row-PlacedAction, items_hidden-the_row-PlacedAction-0}
use Rattle.verilog_places.specs.declared.modules.PlacedAction.TheVariants as acts
use Rattle.verilog_places.specs.declared.modules.PlacedMember.{PlacedMember}
use Rattle.verilog_places.specs.Trees.{PlacedTrees, PlacedActions, Done, If, Join, Then, placed_tree, placed_trees, row_placed, joined, action_then, placed_actions, row_actions, bare, bare_parts, bare_actions, placed_member, bare_member, bare_members}
use Rattle.verilog_places.specs.WidePlaces.{wide_actions, wide_expr}
use Rattle.verilog_places.proofs.PlaceLaws.{joined_bare, joined_wide, or_none}
use Rattle.verilog_size_checks.specs.Sought.{first_of}
use Rattle.verilog_size_checks.proofs.FirstLaws.{first_append}

-- ---- vectors inside expressions and actions

abbrev join_row : PlacedExpr → (n : Count) × Row_of-PlacedExpr n
join_row (Join' _ _ row) = (_, row)
join_row _ = (_, end_of-PlacedExpr)

expr_row : (n : Count) (row : Row_of-PlacedExpr n) → row_placed row ≡ placed_trees (items-the_row-PlacedExpr n row)
expr_row n end_of-PlacedExpr = refl
expr_row n (more_of-PlacedExpr e rest) = ap (Then (placed_tree e)) (expr_row _ rest)

pub placed_tree-Join : (at : _) (v : Vec PlacedExpr) → placed_tree (exprs.Join at v) ≡ Join at (placed_trees v.items)
placed_tree-Join at v =
    let row = join_row (exprs.Join at v) in
    ap (Join at) (expr_row row.0 row.1 ∙ ap placed_trees (items_hidden-the_row-PlacedExpr-0 v))

abbrev this_row : PlacedAction → (n : Count) × Row_of-PlacedAction n
this_row (If' test _ row _ other) = (_, row)
this_row _ = (_, end_of-PlacedAction)

abbrev other_row : PlacedAction → (n : Count) × Row_of-PlacedAction n
other_row (If' test _ row _ other) = (_, other)
other_row _ = (_, end_of-PlacedAction)

action_row : (n : Count) (row : Row_of-PlacedAction n) → row_actions row ≡ placed_actions (items-the_row-PlacedAction n row)
action_row n end_of-PlacedAction = refl
action_row n (more_of-PlacedAction a rest) = ap (action_then a) (action_row _ rest)

pub alone-If : (e : PlacedExpr) (v w : Vec PlacedAction) → action_then (acts.If e v w) Done ≡ If (placed_tree e) (placed_actions v.items) (placed_actions w.items) Done
alone-If e v w =
    let row = this_row (acts.If e v w) in
    let others = other_row (acts.If e v w) in
    ap (λ (xs : PlacedActions). If (placed_tree e) xs (row_actions others.1) Done) (action_row row.0 row.1 ∙ ap placed_actions (items_hidden-the_row-PlacedAction-0 v))
    ∙ ap (λ (xs : PlacedActions). If (placed_tree e) (placed_actions v.items) xs Done) (action_row others.0 others.1 ∙ ap placed_actions (items_hidden-the_row-PlacedAction-0 w))

-- the same of an action and lists that are told to be these
pub either : (e : PlacedExpr) (v w : Vec PlacedAction) (action : PlacedAction) (this other : List PlacedAction) → action ≡ acts.If e v w → this ≡ v.items → other ≡ w.items
    → action_then action Done ≡ If (placed_tree e) (placed_actions this) (placed_actions other) Done
either e v w action this other is first second =
    ap (λ (a : PlacedAction). action_then a Done) is ∙ alone-If e v w
    ∙ ap₂ (λ (xs ys : List PlacedAction). If (placed_tree e) (placed_actions xs) (placed_actions ys) Done) (sym first) (sym second)

pub then_joined : (a : PlacedAction) (more : PlacedActions) → action_then a more ≡ joined (action_then a Done) more
then_joined (acts.Set name None value) more = refl
then_joined (acts.Set name (Some index) value) more = refl
then_joined (If' test p this q other) more = refl

-- ---- what is found in actions one behind the other

joined_indexes : (xs ys : ActionTrees) → action_indexes (plain.joined xs ys) ≡ action_indexes xs ++ action_indexes ys
joined_indexes plain.Done ys = refl
joined_indexes (plain.Set name value rest) ys = ap (λ (r : List (List ℕ × VTree)). expr_indexes value ++ r) (joined_indexes rest ys) ∙ sym (append_assoc (expr_indexes value) (action_indexes rest) (action_indexes ys))
joined_indexes (plain.Put name index value rest) ys =
    ap (λ (r : List (List ℕ × VTree)). (name, index) ∷ (expr_indexes index ++ (expr_indexes value ++ r))) (joined_indexes rest ys)
    ∙ ap (λ (r : List (List ℕ × VTree)). (name, index) ∷ (expr_indexes index ++ r)) (sym (append_assoc (expr_indexes value) (action_indexes rest) (action_indexes ys)))
    ∙ ap (λ (r : List (List ℕ × VTree)). (name, index) ∷ r) (sym (append_assoc (expr_indexes index) (expr_indexes value ++ action_indexes rest) (action_indexes ys)))
joined_indexes (plain.If test this other rest) ys =
    ap (λ (r : List (List ℕ × VTree)). expr_indexes test ++ (action_indexes this ++ (action_indexes other ++ r))) (joined_indexes rest ys)
    ∙ ap (λ (r : List (List ℕ × VTree)). expr_indexes test ++ (action_indexes this ++ r)) (sym (append_assoc (action_indexes other) (action_indexes rest) (action_indexes ys)))
    ∙ ap (λ (r : List (List ℕ × VTree)). expr_indexes test ++ r) (sym (append_assoc (action_indexes this) (action_indexes other ++ action_indexes rest) (action_indexes ys)))
    ∙ sym (append_assoc (expr_indexes test) (action_indexes this ++ (action_indexes other ++ action_indexes rest)) (action_indexes ys))

joined_targets : (xs ys : ActionTrees) → targets (plain.joined xs ys) ≡ targets xs ++ targets ys
joined_targets plain.Done ys = refl
joined_targets (plain.Set name value rest) ys = ap (λ (r : List (List ℕ)). name ∷ r) (joined_targets rest ys)
joined_targets (plain.Put name index value rest) ys = ap (λ (r : List (List ℕ)). name ∷ r) (joined_targets rest ys)
joined_targets (plain.If test this other rest) ys =
    ap (λ (r : List (List ℕ)). targets this ++ (targets other ++ r)) (joined_targets rest ys)
    ∙ ap (λ (r : List (List ℕ)). targets this ++ r) (sym (append_assoc (targets other) (targets rest) (targets ys)))
    ∙ sym (append_assoc (targets this) (targets other ++ targets rest) (targets ys))

pub indexes_then : (a : PlacedAction) (rest : List PlacedAction)
    → action_indexes (bare_actions (placed_actions (a ∷ rest))) ≡ action_indexes (bare_actions (action_then a Done)) ++ action_indexes (bare_actions (placed_actions rest))
indexes_then a rest =
    ap (λ (all : PlacedActions). action_indexes (bare_actions all)) (then_joined a (placed_actions rest))
    ∙ ap action_indexes (joined_bare (action_then a Done) (placed_actions rest))
    ∙ joined_indexes (bare_actions (action_then a Done)) (bare_actions (placed_actions rest))

pub targets_then : (a : PlacedAction) (rest : List PlacedAction) → targets (bare_actions (placed_actions (a ∷ rest))) ≡ targets (bare_actions (action_then a Done)) ++ targets (bare_actions (placed_actions rest))
targets_then a rest =
    ap (λ (all : PlacedActions). targets (bare_actions all)) (then_joined a (placed_actions rest))
    ∙ ap targets (joined_bare (action_then a Done) (placed_actions rest))
    ∙ joined_targets (bare_actions (action_then a Done)) (bare_actions (placed_actions rest))

pub wide_then : (w : Widths) (a : PlacedAction) (rest : List PlacedAction) → wide_actions w (placed_actions (a ∷ rest)) ≡ (wide_actions w (action_then a Done) or_else wide_actions w (placed_actions rest))
wide_then w a rest = ap (wide_actions w) (then_joined a (placed_actions rest)) ∙ joined_wide w (action_then a Done) (placed_actions rest)

-- ---- what is found in the actions of an `if`

pub targets_if : (e : PlacedExpr) (v w : Vec PlacedAction) (action : PlacedAction) (this other : List PlacedAction) → action ≡ acts.If e v w → this ≡ v.items → other ≡ w.items
    → targets (bare_actions (action_then action Done)) ≡ targets (bare_actions (placed_actions this)) ++ targets (bare_actions (placed_actions other))
targets_if e v w action this other is first second =
    ap (λ (a : PlacedActions). targets (bare_actions a)) (either e v w action this other is first second)
    ∙ ap (λ (r : List (List ℕ)). targets (bare_actions (placed_actions this)) ++ r) (append-nil (targets (bare_actions (placed_actions other))))

pub indexes_if : (e : PlacedExpr) (v w : Vec PlacedAction) (action : PlacedAction) (this other : List PlacedAction) → action ≡ acts.If e v w → this ≡ v.items → other ≡ w.items
    → action_indexes (bare_actions (action_then action Done)) ≡ expr_indexes (bare (placed_tree e)) ++ (action_indexes (bare_actions (placed_actions this)) ++ action_indexes (bare_actions (placed_actions other)))
indexes_if e v w action this other is first second =
    ap (λ (a : PlacedActions). action_indexes (bare_actions a)) (either e v w action this other is first second)
    ∙ ap (λ (r : List (List ℕ × VTree)). expr_indexes (bare (placed_tree e)) ++ (action_indexes (bare_actions (placed_actions this)) ++ r)) (append-nil (action_indexes (bare_actions (placed_actions other))))

-- ---- one element more of a loop

pub drop_here : {A : Type 0} (xs : List A) (i : ℕ) (x : A) → i < length xs → x ≡ get_or xs i x → drop i xs ≡ x ∷ drop (i + 1) xs
drop_here xs i x within is =
    let next : suc i ≡ i + 1 = omega arith in
    drop-cons xs i x within ∙ ap₂ (λ (y : _) (k : ℕ). y ∷ drop k xs) (sym is) next

pub indexes_at : {B : Type 0} (f : List ℕ × VTree → Option B) (all : List PlacedAction) (i : ℕ) (a : PlacedAction) → i < length all → a ≡ get_or all i a
    → first_of f (action_indexes (bare_actions (placed_actions (drop i all))))
    ≡ option_or (first_of f (action_indexes (bare_actions (action_then a Done)))) (first_of f (action_indexes (bare_actions (placed_actions (drop (i + 1) all)))))
indexes_at f all i a within is =
    ap (λ (xs : List PlacedAction). first_of f (action_indexes (bare_actions (placed_actions xs)))) (drop_here all i a within is)
    ∙ ap (first_of f) (indexes_then a (drop (i + 1) all))
    ∙ first_append f (action_indexes (bare_actions (action_then a Done))) (action_indexes (bare_actions (placed_actions (drop (i + 1) all))))

pub targets_at : (all : List PlacedAction) (i : ℕ) (a : PlacedAction) → i < length all → a ≡ get_or all i a
    → targets (bare_actions (placed_actions (drop i all))) ≡ targets (bare_actions (action_then a Done)) ++ targets (bare_actions (placed_actions (drop (i + 1) all)))
targets_at all i a within is = ap (λ (xs : List PlacedAction). targets (bare_actions (placed_actions xs))) (drop_here all i a within is) ∙ targets_then a (drop (i + 1) all)

pub wide_step : (w : Widths) (all : List PlacedAction) (i : ℕ) (a : PlacedAction) → i < length all → a ≡ get_or all i a
    → wide_actions w (placed_actions (drop i all)) ≡ (wide_actions w (action_then a Done) or_else wide_actions w (placed_actions (drop (i + 1) all)))
wide_step w all i a within is = ap (λ (xs : List PlacedAction). wide_actions w (placed_actions xs)) (drop_here all i a within is) ∙ wide_then w a (drop (i + 1) all)

pub wide_if : (w : Widths) (e : PlacedExpr) (v u : Vec PlacedAction) (action : PlacedAction) (this other : List PlacedAction) → action ≡ acts.If e v u → this ≡ v.items → other ≡ u.items
    → wide_actions w (action_then action Done) ≡ (wide_expr w (placed_tree e) or_else (wide_actions w (placed_actions this) or_else wide_actions w (placed_actions other)))
wide_if w e v u action this other is first second =
    ap (wide_actions w) (either e v u action this other is first second)
    ∙ ap (λ (r : Option ℕ). wide_expr w (placed_tree e) or_else (wide_actions w (placed_actions this) or_else r)) (or_none (wide_actions w (placed_actions other)))

pub join_is : (at : ℕ) (v : Vec PlacedExpr) (e : PlacedExpr) (parts : List PlacedExpr) → e ≡ exprs.Join at v → parts ≡ v.items → placed_tree e ≡ Join at (placed_trees parts)
join_is at v e parts is same = ap placed_tree is ∙ placed_tree-Join at v ∙ ap (λ (xs : List PlacedExpr). Join at (placed_trees xs)) (sym same)

pub parts_here : (all : List PlacedExpr) (i : ℕ) (e : PlacedExpr) → i < length all → e ≡ get_or all i e → placed_trees (drop i all) ≡ Then (placed_tree e) (placed_trees (drop (i + 1) all))
parts_here all i e within is = ap placed_trees (drop_here all i e within is)

pub parts_at : {B : Type 0} (f : List ℕ × VTree → Option B) (all : List PlacedExpr) (i : ℕ) (e : PlacedExpr) → i < length all → e ≡ get_or all i e
    → first_of f (parts_indexes (bare_parts (placed_trees (drop i all))))
    ≡ option_or (first_of f (expr_indexes (bare (placed_tree e)))) (first_of f (parts_indexes (bare_parts (placed_trees (drop (i + 1) all)))))
parts_at f all i e within is =
    ap (λ (xs : PlacedTrees). first_of f (parts_indexes (bare_parts xs))) (parts_here all i e within is)
    ∙ first_append f (expr_indexes (bare (placed_tree e))) (parts_indexes (bare_parts (placed_trees (drop (i + 1) all))))

pub members_at : {B : Type 0} (f : List ℕ × VTree → Option B) (all : List PlacedMember) (i : ℕ) (x : PlacedMember) → i < length all → x ≡ get_or all i x
    → first_of f (flat_map member_indexes (bare_members (map placed_member (drop i all))))
    ≡ option_or (first_of f (member_indexes (bare_member (placed_member x)))) (first_of f (flat_map member_indexes (bare_members (map placed_member (drop (i + 1) all)))))
members_at f all i x within is =
    ap (λ (xs : List PlacedMember). first_of f (flat_map member_indexes (bare_members (map placed_member xs)))) (drop_here all i x within is)
    ∙ first_append f (member_indexes (bare_member (placed_member x))) (flat_map member_indexes (bare_members (map placed_member (drop (i + 1) all))))

pub drop_end : {A : Type 0} (xs : List A) (i : ℕ) → length xs ≤ i → drop i xs ≡ []
drop_end [] zero past = refl
drop_end [] (suc i) past = refl
drop_end (x ∷ xs) zero past = absurd (omega arith)
drop_end (x ∷ xs) (suc i) past = drop_end xs i (omega arith)

-- the first of two places
pub some_first : (a b r : Option ℕ) → r ≡ a → is_some r ≡ true → r ≡ (a or_else b)
some_first None b r is some = let nothing : is_some r ≡ false = ap is_some is in absurd cc
some_first (Some at) b r is some = is

pub none_first : (a b r : Option ℕ) → r ≡ a → is_some r ≡ false → b ≡ (a or_else b)
none_first None b r is none = refl
none_first (Some at) b r is none = let something : is_some r ≡ true = ap is_some is in absurd cc

pub first_if : {B : Type 0} (f : List ℕ × VTree → Option B) (e : PlacedExpr) (v w : Vec PlacedAction) (action : PlacedAction) (this other : List PlacedAction) → action ≡ acts.If e v w → this ≡ v.items → other ≡ w.items
    → first_of f (action_indexes (bare_actions (action_then action Done)))
    ≡ option_or (first_of f (expr_indexes (bare (placed_tree e)))) (option_or (first_of f (action_indexes (bare_actions (placed_actions this)))) (first_of f (action_indexes (bare_actions (placed_actions other)))))
first_if f e v w action this other is first second =
    ap (first_of f) (indexes_if e v w action this other is first second)
    ∙ first_append f (expr_indexes (bare (placed_tree e))) (action_indexes (bare_actions (placed_actions this)) ++ action_indexes (bare_actions (placed_actions other)))
    ∙ ap (option_or (first_of f (expr_indexes (bare (placed_tree e))))) (first_append f (action_indexes (bare_actions (placed_actions this))) (action_indexes (bare_actions (placed_actions other))))
