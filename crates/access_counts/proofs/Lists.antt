-- Lists of statements and of items from the front, and texts by how they lie in memory.
use Rattle.std.proofs.Common.{◌≡◌, ◌<◌, ◌≤◌, ◌+◌, ◌*◌, ℕ, zero, suc, List, [], ◌∷◌, Option, None, Some, length, get_or, drop, drop-cons, refl, ap, sym, ◌∙◌, arith, add-one, subst}
use Rattle.std.specs.Global.{Box, Vec}
use Rattle.lisa_tree.specs.Expressions.{expr_tree}
use Rattle.lisa_tree.specs.declared.expressions.Expr.{Expr}
use Rattle.lisa_tree.specs.declared.statements.Stmt.{Stmt}
use Rattle.lisa_tree.specs.declared.statements.Stmt.TheVariants as stmts
use Rattle.lisa_tree.specs.declared.statements.ForHead.{ForHead}
use Rattle.lisa_tree.specs.Statements.{StmtTree, head_tree, stmt_tree, stmt_trees}
use Rattle.lisa_tree.specs.declared.descriptions.Act.{Act}
use Rattle.lisa_tree.specs.declared.descriptions.Act.TheVariants as acts
use Rattle.lisa_tree.specs.Activations.{ActTree, act_tree, act_trees}
use Rattle.lisa_tree.specs.Descriptions.{DescriptionTree}
use Rattle.lisa_tree.proofs.Views.{stmt_tree-Block, act_tree-Choose, act_tree-ChooseElse}
use Rattle.access_counts.specs.declared.ledger.Ledger.{Ledger}
use Rattle.access_counts.specs.Accesses.{Access, Naming, turns_of, value_accesses, place_accesses, statement_accesses, statements_accesses, item_accesses, items_accesses}
use Rattle.access_counts.specs.Ledgers.{capped, IsAdded}
use Rattle.access_counts.proofs.Noting.{turns_noted}

module _ (x : Access) (names : Naming) where
  pub one_statement : (all : List Stmt) (i : ℕ) (s : Stmt) → i < length all → s ≡ get_or all i s
      → statements_accesses x names (stmt_trees (drop i all)) ≡ statement_accesses x names (stmt_tree s) + statements_accesses x names (stmt_trees (drop (i + 1) all))
  one_statement all i s h e =
      ap (λ (l : List Stmt). statements_accesses x names (stmt_trees l)) (drop-cons all i s h)
      ∙ ap (λ (y : Stmt). statement_accesses x names (stmt_tree y) + statements_accesses x names (stmt_trees (drop (suc i) all))) (sym e)
      ∙ ap (λ (m : ℕ). statement_accesses x names (stmt_tree s) + statements_accesses x names (stmt_trees (drop m all))) (sym (add-one i))

  pub no_statement : (all : List Stmt) (i : ℕ) → length all ≤ i → statements_accesses x names (stmt_trees (drop i all)) ≡ 0
  no_statement [] zero h = refl
  no_statement [] (suc i) h = refl
  no_statement (s ∷ all) zero h = absurd (omega (arith, h))
  no_statement (s ∷ all) (suc i) h = no_statement all i (omega (arith, h))

  pub one_item : (all : List Act) (i : ℕ) (s : Act) → i < length all → s ≡ get_or all i s
      → items_accesses x names (act_trees (drop i all)) ≡ item_accesses x names (act_tree s) + items_accesses x names (act_trees (drop (i + 1) all))
  one_item all i s h e =
      ap (λ (l : List Act). items_accesses x names (act_trees l)) (drop-cons all i s h)
      ∙ ap (λ (y : Act). item_accesses x names (act_tree y) + items_accesses x names (act_trees (drop (suc i) all))) (sym e)
      ∙ ap (λ (m : ℕ). item_accesses x names (act_tree s) + items_accesses x names (act_trees (drop m all))) (sym (add-one i))

  pub no_item : (all : List Act) (i : ℕ) → length all ≤ i → items_accesses x names (act_trees (drop i all)) ≡ 0
  no_item [] zero h = refl
  no_item [] (suc i) h = refl
  no_item (s ∷ all) zero h = absurd (omega (arith, h))
  no_item (s ∷ all) (suc i) h = no_item all i (omega (arith, h))

module _ (d : DescriptionTree) (o : ℕ) (old new : Ledger) (times : ℕ) where
  pub block_added : (s : Stmt) (v : Vec Stmt) (xs : List Stmt) → s ≡ stmts.Block v → xs ≡ v.items
      → IsAdded d o old new times (λ x names. statements_accesses x names (stmt_trees xs)) → IsAdded d o old new times (λ x names. statement_accesses x names (stmt_tree s))
  block_added s v xs h k f =
      subst (λ (t : StmtTree). IsAdded d o old new times (λ x names. statement_accesses x names t)) (sym (ap stmt_tree h ∙ stmt_tree-Block v))
      (subst (λ (l : List Stmt). IsAdded d o old new times (λ x names. statements_accesses x names (stmt_trees l))) k f)

  pub choose_added : (a : Act) (e : Expr) (v : Vec Act) (other : Option (Vec Act)) (xs : List Act) → a ≡ acts.Choose e v other → other ≡ None → xs ≡ v.items
      → IsAdded d o old new times (λ x names. value_accesses x names (expr_tree e) + items_accesses x names (act_trees xs)) → IsAdded d o old new times (λ x names. item_accesses x names (act_tree a))
  choose_added a e v other xs h n k f =
      subst (λ (t : ActTree). IsAdded d o old new times (λ x names. item_accesses x names t)) (sym (ap act_tree (h ∙ ap (acts.Choose e v) n) ∙ act_tree-Choose e v))
      (subst (λ (l : List Act). IsAdded d o old new times (λ x names. value_accesses x names (expr_tree e) + items_accesses x names (act_trees l))) k f)

  pub choose_else_added : (a : Act) (e : Expr) (v w : Vec Act) (other : Option (Vec Act)) (xs ys : List Act) → a ≡ acts.Choose e v other → other ≡ Some w → xs ≡ v.items → ys ≡ w.items
      → IsAdded d o old new times (λ x names. value_accesses x names (expr_tree e) + (items_accesses x names (act_trees xs) + items_accesses x names (act_trees ys)))
      → IsAdded d o old new times (λ x names. item_accesses x names (act_tree a))
  choose_else_added a e v w other xs ys h n k l f =
      subst (λ (t : ActTree). IsAdded d o old new times (λ x names. item_accesses x names t)) (sym (ap act_tree (h ∙ ap (acts.Choose e v) n) ∙ act_tree-ChooseElse e v w))
      (subst (λ (zs : List Act). IsAdded d o old new times (λ x names. value_accesses x names (expr_tree e) + (items_accesses x names (act_trees v.items) + items_accesses x names (act_trees zs)))) l
      (subst (λ (zs : List Act). IsAdded d o old new times (λ x names. value_accesses x names (expr_tree e) + (items_accesses x names (act_trees zs) + items_accesses x names (act_trees ys)))) k f))

  -- one statement for another
  same_statement : (s z : Stmt) → s ≡ z → IsAdded d o old new times (λ x names. statement_accesses x names (stmt_tree z)) → IsAdded d o old new times (λ x names. statement_accesses x names (stmt_tree s))
  same_statement s z e f = subst (λ (y : Stmt). IsAdded d o old new times (λ x names. statement_accesses x names (stmt_tree y))) (sym e) f

  pub assignment_added : (s : Stmt) (place value : Expr) → s ≡ stmts.Assign place value
      → IsAdded d o old new times (λ x names. place_accesses x names (expr_tree place) + value_accesses x names (expr_tree value)) → IsAdded d o old new times (λ x names. statement_accesses x names (stmt_tree s))
  assignment_added s place value e f = same_statement s (stmts.Assign place value) e f

  pub if_added : (s : Stmt) (test : Expr) (a : Box Stmt) (w : Option (Box Stmt)) (chosen : Stmt) → s ≡ stmts.If test a w → chosen ≡ a.value → w ≡ None
      → IsAdded d o old new times (λ x names. value_accesses x names (expr_tree test) + statement_accesses x names (stmt_tree chosen)) → IsAdded d o old new times (λ x names. statement_accesses x names (stmt_tree s))
  if_added s test a w chosen e k n f =
      same_statement s (stmts.If test a None) (e ∙ ap (λ (z : Option (Box Stmt)). stmts.If test a z) n)
      (subst (λ (c : Stmt). IsAdded d o old new times (λ x names. value_accesses x names (expr_tree test) + statement_accesses x names (stmt_tree c))) k f)

  pub if_else_added : (s : Stmt) (test : Expr) (a b : Box Stmt) (w : Option (Box Stmt)) (chosen other : Stmt) → s ≡ stmts.If test a w → chosen ≡ a.value → w ≡ Some b → other ≡ b.value
      → IsAdded d o old new times (λ x names. value_accesses x names (expr_tree test) + (statement_accesses x names (stmt_tree chosen) + statement_accesses x names (stmt_tree other)))
      → IsAdded d o old new times (λ x names. statement_accesses x names (stmt_tree s))
  if_else_added s test a b w chosen other e k n l f =
      same_statement s (stmts.If test a (Some b)) (e ∙ ap (λ (z : Option (Box Stmt)). stmts.If test a z) n)
      (subst (λ (c : Stmt). IsAdded d o old new times (λ x names. value_accesses x names (expr_tree test) + (statement_accesses x names (stmt_tree a.value) + statement_accesses x names (stmt_tree c)))) l
      (subst (λ (c : Stmt). IsAdded d o old new times (λ x names. value_accesses x names (expr_tree test) + (statement_accesses x names (stmt_tree c) + statement_accesses x names (stmt_tree other)))) k f))

  pub while_added : (s : Stmt) (test : Expr) (a : Box Stmt) (body : Stmt) → s ≡ stmts.While test a → body ≡ a.value
      → IsAdded d o old new times (λ x names. value_accesses x names (expr_tree test) + statement_accesses x names (stmt_tree body)) → IsAdded d o old new times (λ x names. statement_accesses x names (stmt_tree s))
  while_added s test a body e k f =
      same_statement s (stmts.While test a) e
      (subst (λ (c : Stmt). IsAdded d o old new times (λ x names. value_accesses x names (expr_tree test) + statement_accesses x names (stmt_tree c))) k f)

  pub for_added : (s : Stmt) (p : Box ForHead) (a : Box Stmt) (head : ForHead) (body : Stmt) (turns : ℕ) → s ≡ stmts.For p a → head ≡ p.value → body ≡ a.value → turns ≡ capped (times * turns_of (head_tree head))
      → IsAdded d o old new turns (λ x names. statement_accesses x names (stmt_tree body)) → IsAdded d o old new times (λ x names. statement_accesses x names (stmt_tree s))
  for_added s p a head body turns e h k is f =
      same_statement s (stmts.For p a) e
      (turns_noted d o old new times (turns_of (head_tree p.value)) turns (λ x names. statement_accesses x names (stmt_tree a.value))
      (is ∙ ap (λ (z : ForHead). capped (times * turns_of (head_tree z))) h)
      (subst (λ (c : Stmt). IsAdded d o old new turns (λ x names. statement_accesses x names (stmt_tree c))) k f))
