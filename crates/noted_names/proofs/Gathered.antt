-- Names that are gathered one after the other.
use Rattle.std.proofs.Common.{◌≡◌, ◌<◌, ◌+◌, ◌∙◌, ℕ, suc, List, [], ◌∷◌, ◌++◌, Option, None, Some, map, length, get_or, drop, drop-cons, sym, ap, add-one, append_assoc}
use Rattle.std.proofs.lemmas.List.{map-append}
use Rattle.std.specs.Borrow.{Bor}
use Rattle.std.specs.Global.{Vec}
use Rattle.std.specs.Prelude.{flat_map}
use Rattle.lisa_tree.specs.declared.statements.Stmt.{Stmt}
use Rattle.lisa_tree.specs.declared.statements.Stmt.TheVariants as stmts
use Rattle.lisa_tree.specs.declared.descriptions.Act.{Act}
use Rattle.lisa_tree.specs.Statements.{stmt_tree, stmt_trees}
use Rattle.lisa_tree.specs.Activations.{act_tree, act_trees}
use Rattle.lisa_tree.specs.declared.descriptions.Act.TheVariants as acts
use Rattle.lisa_tree.specs.declared.expressions.Expr.{Expr}
use Rattle.lisa_tree.specs.Expressions.{expr_tree}
use Rattle.lisa_tree.proofs.Views.{act_tree-Choose, act_tree-ChooseElse, stmt_tree-Block}
use Rattle.noted_names.specs.Standing.{names_of, in_expression, in_statement, in_statements, in_acts, in_act}

pub pushed : (old new : List (Bor (List ℕ))) (r : Bor (List ℕ)) → new ≡ old ++ r ∷ [] → names_of new ≡ names_of old ++ r.now ∷ []
pushed old new r made = ap names_of made ∙ map-append (λ (x : Bor (List ℕ)). x.now) old (r ∷ [])

pub joined : (a b c xs ys : List (List ℕ)) → b ≡ a ++ xs → c ≡ b ++ ys → c ≡ a ++ (xs ++ ys)
joined a b c xs ys first more = more ∙ ap (λ (l : List (List ℕ)). l ++ ys) first ∙ append_assoc a xs ys

-- what was added, and what is left
pub regroup : (row more new rest front all : List (List ℕ)) → new ≡ row ++ more → row ++ all ≡ front → all ≡ more ++ rest → new ++ rest ≡ front
regroup row more new rest front all added so_far split = ap (λ (l : List (List ℕ)). l ++ rest) added ∙ append_assoc row more rest ∙ ap (λ (l : List (List ℕ)). row ++ l) (sym split) ∙ so_far

pub one_statement : (all : List Stmt) (i : ℕ) (s : Stmt) → i < length all → s ≡ get_or all i s → in_statements (stmt_trees (drop i all)) ≡ in_statement (stmt_tree s) ++ in_statements (stmt_trees (drop (i + 1) all))
one_statement all i s within read =
    ap (λ (xs : List Stmt). in_statements (stmt_trees xs)) (drop-cons all i s within)
    ∙ ap (λ (x : Stmt). in_statement (stmt_tree x) ++ in_statements (stmt_trees (drop (suc i) all))) (sym read)
    ∙ ap (λ (m : ℕ). in_statement (stmt_tree s) ++ in_statements (stmt_trees (drop m all))) (sym (add-one i))

pub one_act : (all : List Act) (i : ℕ) (a : Act) → i < length all → a ≡ get_or all i a → in_acts (act_trees (drop i all)) ≡ in_act (act_tree a) ++ in_acts (act_trees (drop (i + 1) all))
one_act all i a within read =
    ap (λ (xs : List Act). in_acts (act_trees xs)) (drop-cons all i a within)
    ∙ ap (λ (x : Act). in_act (act_tree x) ++ in_acts (act_trees (drop (suc i) all))) (sym read)
    ∙ ap (λ (m : ℕ). in_act (act_tree a) ++ in_acts (act_trees (drop m all))) (sym (add-one i))

pub one_more_of : {X : Type 0} (f : X → List (List ℕ)) (all : List X) (i : ℕ) (x : X) → i < length all → x ≡ get_or all i x → flat_map f (drop i all) ≡ f x ++ flat_map f (drop (i + 1) all)
one_more_of {X = X} f all i x within read =
    ap (flat_map f) (drop-cons all i x within)
    ∙ ap (λ (y : X). f y ++ flat_map f (drop (suc i) all)) (sym read)
    ∙ ap (λ (m : ℕ). f x ++ flat_map f (drop m all)) (sym (add-one i))

pub one_more_name : {X : Type 0} (f : X → List ℕ) (all : List X) (i : ℕ) (x : X) → i < length all → x ≡ get_or all i x → map f (drop i all) ≡ f x ∷ map f (drop (i + 1) all)
one_more_name {X = X} f all i x within read =
    ap (map f) (drop-cons all i x within)
    ∙ ap (λ (y : X). f y ∷ map f (drop (suc i) all)) (sym read)
    ∙ ap (λ (m : ℕ). f x ∷ map f (drop m all)) (sym (add-one i))

pub block_is : (s : Stmt) (v : Vec Stmt) (xs : List Stmt) → s ≡ stmts.Block v → xs ≡ v.items → in_statement (stmt_tree s) ≡ in_statements (stmt_trees xs)
block_is s v xs made same = ap (λ (t : Stmt). in_statement (stmt_tree t)) made ∙ ap in_statement (stmt_tree-Block v) ∙ ap (λ (ys : List Stmt). in_statements (stmt_trees ys)) (sym same)

pub act_is : (a : Act) (e : Expr) (v : Vec Act) (other : Option (Vec Act)) (xs : List Act) → a ≡ acts.Choose e v other → other ≡ None → xs ≡ v.items → in_act (act_tree a) ≡ in_expression (expr_tree e) ++ in_acts (act_trees xs)
act_is a e v other xs made none same =
    ap (λ (b : Act). in_act (act_tree b)) (made ∙ ap (acts.Choose e v) none) ∙ ap in_act (act_tree-Choose e v) ∙ ap (λ (ys : List Act). in_expression (expr_tree e) ++ in_acts (act_trees ys)) (sym same)

pub act_with_else_is : (a : Act) (e : Expr) (v w : Vec Act) (other : Option (Vec Act)) (xs ys : List Act) → a ≡ acts.Choose e v other → other ≡ Some w → xs ≡ v.items → ys ≡ w.items
    → in_act (act_tree a) ≡ in_expression (expr_tree e) ++ in_acts (act_trees xs) ++ in_acts (act_trees ys)
act_with_else_is a e v w other xs ys made some same same_other =
    ap (λ (b : Act). in_act (act_tree b)) (made ∙ ap (acts.Choose e v) some) ∙ ap in_act (act_tree-ChooseElse e v w)
    ∙ ap (λ (zs : List Act). in_expression (expr_tree e) ++ in_acts (act_trees zs) ++ in_acts (act_trees w.items)) (sym same)
    ∙ ap (λ (zs : List Act). in_expression (expr_tree e) ++ in_acts (act_trees xs) ++ in_acts (act_trees zs)) (sym same_other)

pub joined_three : (a b c d xs ys zs : List (List ℕ)) → b ≡ a ++ xs → c ≡ b ++ ys → d ≡ c ++ zs → d ≡ a ++ (xs ++ ys ++ zs)
joined_three a b c d xs ys zs first next last = joined a c d (xs ++ ys) zs (joined a b c xs ys first next) last
