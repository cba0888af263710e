-- The conditions of an item, by how it is kept.
use Rattle.std.proofs.Common.{◌≡◌, ◌++◌, ◌∙◌, List, [], ◌∷◌, Option, None, Some, append_assoc, sym, ap}
use Rattle.std.specs.Borrow.{Bor}
use Rattle.std.specs.Global.{Vec}
use Rattle.std.proofs.lemmas.List.{map-append}
use Rattle.lisa_tree.specs.declared.expressions.Expr.{Expr}
use Rattle.lisa_tree.specs.declared.descriptions.Act.{Act}
use Rattle.lisa_tree.specs.declared.descriptions.Act.TheVariants as acts
use Rattle.lisa_tree.proofs.Views.{act_tree-Choose, act_tree-ChooseElse}
use Rattle.lisa_tree.specs.Expressions.{ExprTree, expr_tree}
use Rattle.lisa_tree.specs.Activations.{act_tree, act_trees}
use Rattle.lisa_meaning.specs.Cores.{item_conditions, items_conditions}
use Rattle.scene_paths.specs.Conditions.{expressions_of}

pub chosen_conditions : (a : Act) (e : Expr) (v : Vec Act) (other : Option (Vec Act)) (xs : List Act) → a ≡ acts.Choose e v other → other ≡ None → xs ≡ v.items
    → item_conditions (act_tree a) ≡ expr_tree e ∷ items_conditions (act_trees xs)
chosen_conditions a e v other xs h o k =
    ap (λ (a : Act). item_conditions (act_tree a)) (h ∙ ap (acts.Choose e v) o) ∙ ap item_conditions (act_tree-Choose e v) ∙ sym (ap (λ (xs : List Act). expr_tree e ∷ items_conditions (act_trees xs)) k)

pub either_conditions : (a : Act) (e : Expr) (v w : Vec Act) (other : Option (Vec Act)) (xs ys : List Act)
    → a ≡ acts.Choose e v other → other ≡ Some w → xs ≡ v.items → ys ≡ w.items
    → item_conditions (act_tree a) ≡ expr_tree e ∷ (items_conditions (act_trees xs) ++ items_conditions (act_trees ys))
either_conditions a e v w other xs ys h o k l =
    ap (λ (a : Act). item_conditions (act_tree a)) (h ∙ ap (acts.Choose e v) o)
    ∙ ap item_conditions (act_tree-ChooseElse e v w)
    ∙ sym (ap (λ (xs : List Act). expr_tree e ∷ (items_conditions (act_trees xs) ++ items_conditions (act_trees w.items))) k)
    ∙ sym (ap (λ (ys : List Act). expr_tree e ∷ (items_conditions (act_trees xs) ++ items_conditions (act_trees ys))) l)

-- ---- what is added

pub added : (old mid last : List (Bor Expr)) (x : Bor Expr) (conds all : List ExprTree) → mid ≡ old ++ x ∷ [] → expressions_of last ≡ expressions_of mid ++ conds → all ≡ expr_tree x.now ∷ conds → expressions_of last ≡ expressions_of old ++ all
added old mid last x conds all one more is =
    more
    ∙ ap (λ (es : List ExprTree). es ++ conds) (ap expressions_of one ∙ map-append (λ (y : Bor Expr). expr_tree y.now) old (x ∷ []))
    ∙ append_assoc (expressions_of old) (expr_tree x.now ∷ []) conds
    ∙ sym (ap (λ (es : List ExprTree). expressions_of old ++ es) is)

pub added_both : (old mid next last : List (Bor Expr)) (x : Bor Expr) (conds others all : List ExprTree) → mid ≡ old ++ x ∷ [] → expressions_of next ≡ expressions_of mid ++ conds → expressions_of last ≡ expressions_of next ++ others → all ≡ expr_tree x.now ∷ (conds ++ others) → expressions_of last ≡ expressions_of old ++ all
added_both old mid next last x conds others all one more rest is =
    added old mid last x (conds ++ others) all one
    (rest ∙ ap (λ (es : List ExprTree). es ++ others) more ∙ append_assoc (expressions_of mid) conds others) is
