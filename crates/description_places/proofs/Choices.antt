-- The places of the two branches of a choice.
use Rattle.std.proofs.Common.{◌≡◌, ℕ, List, [], ◌++◌, Option, None, Some, true, false, refl, ap, sym, ◌∙◌}
use Rattle.std.specs.Global.{Box, Vec}
use Rattle.std.specs.Option.{option_or, is_some}
use Rattle.lisa_tree.specs.declared.expressions.Expr.{Expr}
use Rattle.lisa_tree.specs.declared.statements.Stmt.{Stmt}
use Rattle.lisa_tree.specs.declared.statements.Stmt.TheVariants as stmts
use Rattle.lisa_tree.specs.declared.descriptions.Act.{Act}
use Rattle.lisa_tree.specs.declared.descriptions.Act.TheVariants as acts
use Rattle.lisa_tree.specs.Expressions.{expr_tree}
use Rattle.lisa_tree.specs.Statements.{If, stmt_tree}
use Rattle.lisa_tree.specs.Activations.{act_tree, act_trees}
use Rattle.lisa_tree.proofs.Views.{act_tree-Choose, act_tree-ChooseElse}
use Rattle.description_places.specs.declared.sites.Region.TheVariants as regions
use Rattle.description_places.specs.Scopes.{Scope}
use Rattle.description_places.specs.Places.{At, Condition, first, uses, places, act_places, acts_places}
use Rattle.description_places.proofs.Firsts.{first_append, gone}

module _ {F : Type 0} (breaks : Condition F) where
  -- behind what has no fault, the rest has the first one
  behind : (xs ys zs : List At) → is_some (first breaks (xs ++ ys)) ≡ false → first breaks zs ≡ first breaks (xs ++ (ys ++ zs))
  behind xs ys zs none =
      let e : option_or (first breaks xs) (first breaks ys) ≡ None = sym (first_append breaks xs ys) ∙ gone _ none in
      by (first breaks xs) (first breaks ys) e
      ∙ ap (option_or (first breaks xs)) (sym (first_append breaks ys zs))
      ∙ sym (first_append breaks xs (ys ++ zs))
    where
      by : (a b : Option F) → option_or a b ≡ None → first breaks zs ≡ option_or a (option_or b (first breaks zs))
      by None None e = refl
      by None (Some x) e = absurd (cc e)
      by (Some x) b e = absurd (cc e)

  -- before what is at fault nothing else is
  before : (xs ys zs : List At) → is_some (first breaks (xs ++ ys)) ≡ true → first breaks (xs ++ ys) ≡ first breaks (xs ++ (ys ++ zs))
  before xs ys zs some =
      let e : is_some (option_or (first breaks xs) (first breaks ys)) ≡ true = ap is_some (sym (first_append breaks xs ys)) ∙ some in
      first_append breaks xs ys ∙ by (first breaks xs) (first breaks ys) e
      ∙ ap (option_or (first breaks xs)) (sym (first_append breaks ys zs))
      ∙ sym (first_append breaks xs (ys ++ zs))
    where
      by : (a b : Option F) → is_some (option_or a b) ≡ true → option_or a b ≡ option_or a (option_or b (first breaks zs))
      by None None e = absurd (cc e)
      by None (Some x) e = refl
      by (Some x) b e = refl

  module _ (o : ℕ) (s : Scope) (statement : Stmt) (e : Expr) (a : Box Stmt) (w : Option (Box Stmt)) (body : Stmt) (found : Option F) (is : statement ≡ stmts.If e a w) (same : body ≡ a.value)
      (exact : found ≡ first breaks (places o s (If (expr_tree e) (stmt_tree body)))) where
    at_chosen : found ≡ first breaks (places o s (If (expr_tree e) (stmt_tree a.value)))
    at_chosen = exact ∙ ap (λ (z : Stmt). first breaks (places o s (If (expr_tree e) (stmt_tree z)))) same

    pub if_alone : w ≡ None → found ≡ first breaks (places o s (stmt_tree statement))
    if_alone lone = at_chosen ∙ ap (λ (z : Stmt). first breaks (places o s (stmt_tree z))) (sym (is ∙ ap (λ (z : Option (Box Stmt)). stmts.If e a z) lone))

    pub if_none : w ≡ None → is_some found ≡ false → None ≡ first breaks (places o s (stmt_tree statement))
    if_none lone off = sym (gone found off) ∙ if_alone lone

    pub if_first : is_some found ≡ true → found ≡ first breaks (places o s (stmt_tree statement))
    if_first some = by w refl
      where
        by : (z : Option (Box Stmt)) → w ≡ z → found ≡ first breaks (places o s (stmt_tree statement))
        by None lone = if_alone lone
        by (Some b) both =
            at_chosen ∙ before (uses o regions.Behavior s (expr_tree e)) (places o s (stmt_tree a.value)) (places o s (stmt_tree b.value)) (ap is_some (sym at_chosen) ∙ some)
            ∙ ap (λ (z : Stmt). first breaks (places o s (stmt_tree z))) (sym (is ∙ ap (λ (z : Option (Box Stmt)). stmts.If e a z) both))

    pub if_other : (b : Box Stmt) (other : Stmt) (s' : Scope) (more : Option F) → w ≡ Some b → other ≡ b.value → is_some found ≡ false → s' ≡ s → more ≡ first breaks (places o s' (stmt_tree other))
        → more ≡ first breaks (places o s (stmt_tree statement))
    if_other b other s' more both there off keeps rest =
        rest ∙ ap (λ (z : Scope). first breaks (places o z (stmt_tree other))) keeps ∙ ap (λ (z : Stmt). first breaks (places o s (stmt_tree z))) there
        ∙ behind (uses o regions.Behavior s (expr_tree e)) (places o s (stmt_tree a.value)) (places o s (stmt_tree b.value)) (ap is_some (sym at_chosen) ∙ off)
        ∙ ap (λ (z : Stmt). first breaks (places o s (stmt_tree z))) (sym (is ∙ ap (λ (z : Option (Box Stmt)). stmts.If e a z) both))

  module _ (o : ℕ) (act : Act) (e : Expr) (v : Vec Act) (w : Option (Vec Act)) (found : Option F) (is : act ≡ acts.Choose e v w)
      (exact : found ≡ first breaks (uses o regions.Activation [] (expr_tree e) ++ acts_places o (act_trees v.items))) where
    pub chosen_alone : w ≡ None → found ≡ first breaks (act_places o (act_tree act))
    chosen_alone lone = exact ∙ ap (λ z. first breaks (act_places o z)) (sym (ap act_tree is ∙ ap (λ (z : Option (Vec Act)). act_tree (acts.Choose e v z)) lone ∙ act_tree-Choose e v))

    pub chosen_none : w ≡ None → is_some found ≡ false → None ≡ first breaks (act_places o (act_tree act))
    chosen_none lone off = sym (gone found off) ∙ chosen_alone lone

    pub chosen_first : is_some found ≡ true → found ≡ first breaks (act_places o (act_tree act))
    chosen_first some = by w refl
      where
        by : (z : Option (Vec Act)) → w ≡ z → found ≡ first breaks (act_places o (act_tree act))
        by None lone = chosen_alone lone
        by (Some u) both =
            exact ∙ before (uses o regions.Activation [] (expr_tree e)) (acts_places o (act_trees v.items)) (acts_places o (act_trees u.items)) (ap is_some (sym exact) ∙ some)
            ∙ ap (λ z. first breaks (act_places o z)) (sym (ap act_tree is ∙ ap (λ (z : Option (Vec Act)). act_tree (acts.Choose e v z)) both ∙ act_tree-ChooseElse e v u))

    pub chosen_other : (u : Vec Act) (others : List Act) (more : Option F) → w ≡ Some u → is_some found ≡ false → others ≡ u.items → more ≡ first breaks (acts_places o (act_trees others)) → more ≡ first breaks (act_places o (act_tree act))
    chosen_other u others more both off items rest =
        rest ∙ ap (λ (z : List Act). first breaks (acts_places o (act_trees z))) items
        ∙ behind (uses o regions.Activation [] (expr_tree e)) (acts_places o (act_trees v.items)) (acts_places o (act_trees u.items)) (ap is_some (sym exact) ∙ off)
        ∙ ap (λ z. first breaks (act_places o z)) (sym (ap act_tree is ∙ ap (λ (z : Option (Vec Act)). act_tree (acts.Choose e v z)) both ∙ act_tree-ChooseElse e v u))
