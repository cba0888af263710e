-- Counts are added in any grouping, and lists of them from the front.
use Rattle.std.proofs.Common.{◌≡◌, ◌+◌, ◌<◌, ℕ, suc, List, [], ◌∷◌, Option, None, Some, length, get_or, drop, drop-cons, refl, ap, sym, ◌∙◌, arith, add-one}
use Rattle.std.specs.Global.{Vec}
use Rattle.lisa_tree.specs.Expressions.{ExprTree, expr_tree}
use Rattle.lisa_tree.specs.declared.expressions.Expr.{Expr}
use Rattle.lisa_tree.specs.declared.statements.Stmt.{Stmt}
use Rattle.lisa_tree.specs.declared.statements.Stmt.TheVariants as stmts
use Rattle.lisa_tree.specs.Statements.{stmt_tree, stmt_trees}
use Rattle.lisa_tree.specs.declared.descriptions.Act.{Act}
use Rattle.lisa_tree.specs.declared.descriptions.Act.TheVariants as acts
use Rattle.lisa_tree.specs.Activations.{act_tree, act_trees}
use Rattle.lisa_tree.specs.Descriptions.{DescriptionTree}
use Rattle.lisa_tree.proofs.Views.{stmt_tree-Block, act_tree-Choose, act_tree-ChooseElse}
use Rattle.text_counts.specs.Sums.{Counts, capped, plus, one_more, sum_of}
use Rattle.text_counts.specs.Expressions.{expression_nodes}
use Rattle.text_counts.specs.Behaviors.{statement_count, statements_count}
use Rattle.text_counts.specs.Activations.{item_nodes, items_nodes}

regrouped : (a b c : ℕ) → capped (capped (a + b) + c) ≡ capped (a + capped (b + c))
regrouped a b c = omega arith

pub plus_assoc : (x y z : Option ℕ) → plus (plus x y) z ≡ plus x (plus y z)
plus_assoc None y z = refl
plus_assoc (Some a) None z = refl
plus_assoc (Some a) (Some b) None = refl
plus_assoc (Some a) (Some b) (Some c) = ap (λ (n : ℕ). Some n) (regrouped a b c)

-- ---- a count that is no more than the greatest

pub record IsCapped (x : Option ℕ) : Type 0 where
  pub front : plus (Some 0) x ≡ x
  pub back : plus x (Some 0) ≡ x

pub plus_capped : (x y : Option ℕ) → IsCapped (plus x y)
plus_capped None y = record { front = refl; back = refl }
plus_capped (Some a) None = record { front = refl; back = refl }
plus_capped (Some a) (Some b) = record {
  front = ap (λ (n : ℕ). Some n) (let e : capped (0 + capped (a + b)) ≡ capped (a + b) = omega arith in e);
  back = ap (λ (n : ℕ). Some n) (let e : capped (capped (a + b) + 0) ≡ capped (a + b) = omega arith in e);
}

pub zero_capped : IsCapped (Some 0)
zero_capped = record { front = refl; back = refl }

-- ---- the sum so far, and that of what is left

pub record Summing (sum left all : Option ℕ) : Type 0 where
  pub capped : IsCapped sum
  pub whole : plus sum left ≡ all

pub begins : (all : Option ℕ) → IsCapped all → Summing (Some 0) all all
begins all c = record { capped = zero_capped; whole = c.front }

pub goes_on : (sum sum' here left left' all : Option ℕ) → Summing sum left all → left ≡ plus here left' → sum' ≡ plus sum here → Summing sum' left' all
goes_on sum sum' here left left' all s e f = record {
  capped = rw f (plus_capped sum here);
  whole = ap (λ (x : Option ℕ). plus x left') f ∙ plus_assoc sum here left' ∙ ap (plus sum) (sym e) ∙ s.whole;
}

pub ends : (sum left all : Option ℕ) → Summing sum left all → left ≡ Some 0 → sum ≡ all
ends sum left all s e = sym s.capped.back ∙ ap (plus sum) (sym e) ∙ s.whole

-- ---- lists

pub sum_capped : (more : ℕ) (known : Counts) (all : List ℕ) → IsCapped (sum_of more known all)
sum_capped more known [] = zero_capped
sum_capped more known (a ∷ rest) = plus_capped _ _

pub one_operation : (more : ℕ) (known : Counts) (all : List ℕ) (i : ℕ) → i < length all
    → sum_of more known (drop i all) ≡ plus (plus (Some more) (known (get_or all i 0))) (sum_of more known (drop (i + 1) all))
one_operation more known all i h =
    ap (sum_of more known) (drop-cons all i 0 h)
    ∙ ap (λ (m : ℕ). plus (plus (Some more) (known (get_or all i 0))) (sum_of more known (drop m all))) (sym (add-one i))

module _ (weigh : ExprTree → Option ℕ) (call : List ℕ → Option ℕ) where
  pub statements_capped : (all : List Stmt) → IsCapped (statements_count weigh call (stmt_trees all))
  statements_capped [] = zero_capped
  statements_capped (s ∷ rest) = plus_capped _ _

  pub one_statement : (all : List Stmt) (i : ℕ) (s : Stmt) → i < length all → s ≡ get_or all i s
      → statements_count weigh call (stmt_trees (drop i all)) ≡ plus (statement_count weigh call (stmt_tree s)) (statements_count weigh call (stmt_trees (drop (i + 1) all)))
  one_statement all i s h e =
      ap (λ (l : List Stmt). statements_count weigh call (stmt_trees l)) (drop-cons all i s h)
      ∙ ap (λ (x : Stmt). plus (statement_count weigh call (stmt_tree x)) (statements_count weigh call (stmt_trees (drop (suc i) all)))) (sym e)
      ∙ ap (λ (m : ℕ). plus (statement_count weigh call (stmt_tree s)) (statements_count weigh call (stmt_trees (drop m all)))) (sym (add-one i))

  pub block_count : (s : Stmt) (v : Vec Stmt) (xs : List Stmt) → s ≡ stmts.Block v → xs ≡ v.items
      → statement_count weigh call (stmt_tree s) ≡ one_more (statements_count weigh call (stmt_trees xs))
  block_count s v xs h k =
      ap (λ (s : Stmt). statement_count weigh call (stmt_tree s)) h
      ∙ ap (statement_count weigh call) (stmt_tree-Block v)
      ∙ sym (ap (λ (xs : List Stmt). one_more (statements_count weigh call (stmt_trees xs))) k)

module _ (known : Counts) (d : DescriptionTree) (o : ℕ) where
  pub items_capped : (all : List Act) → IsCapped (items_nodes known d o (act_trees all))
  items_capped [] = zero_capped
  items_capped (a ∷ rest) = plus_capped _ _

  pub one_item : (all : List Act) (i : ℕ) (a : Act) → i < length all → a ≡ get_or all i a
      → items_nodes known d o (act_trees (drop i all)) ≡ plus (item_nodes known d o (act_tree a)) (items_nodes known d o (act_trees (drop (i + 1) all)))
  one_item all i a h e =
      ap (λ (l : List Act). items_nodes known d o (act_trees l)) (drop-cons all i a h)
      ∙ ap (λ (x : Act). plus (item_nodes known d o (act_tree x)) (items_nodes known d o (act_trees (drop (suc i) all)))) (sym e)
      ∙ ap (λ (m : ℕ). plus (item_nodes known d o (act_tree a)) (items_nodes known d o (act_trees (drop m all)))) (sym (add-one i))

  pub choose_nodes : (a : Act) (e : Expr) (v : Vec Act) (other : Option (Vec Act)) (xs : List Act) → a ≡ acts.Choose e v other → other ≡ None → xs ≡ v.items
      → item_nodes known d o (act_tree a) ≡ one_more (plus (expression_nodes known d o (expr_tree e)) (items_nodes known d o (act_trees xs)))
  choose_nodes a e v other xs h n k =
      ap (λ (a : Act). item_nodes known d o (act_tree a)) (h ∙ ap (acts.Choose e v) n)
      ∙ ap (item_nodes known d o) (act_tree-Choose e v)
      ∙ sym (ap (λ (xs : List Act). one_more (plus (expression_nodes known d o (expr_tree e)) (items_nodes known d o (act_trees xs)))) k)

  pub choose_else_nodes : (a : Act) (e : Expr) (v w : Vec Act) (other : Option (Vec Act)) (xs ys : List Act)
      → a ≡ acts.Choose e v other → other ≡ Some w → xs ≡ v.items → ys ≡ w.items
      → item_nodes known d o (act_tree a) ≡ one_more (plus (expression_nodes known d o (expr_tree e)) (plus (items_nodes known d o (act_trees xs)) (items_nodes known d o (act_trees ys))))
  choose_else_nodes a e v w other xs ys h n k l =
      let all : List Act → List Act → Option ℕ = λ xs ys. one_more (plus (expression_nodes known d o (expr_tree e)) (plus (items_nodes known d o (act_trees xs)) (items_nodes known d o (act_trees ys)))) in
      ap (λ (a : Act). item_nodes known d o (act_tree a)) (h ∙ ap (acts.Choose e v) n)
      ∙ ap (item_nodes known d o) (act_tree-ChooseElse e v w)
      ∙ sym (ap (λ (xs : List Act). all xs w.items) k)
      ∙ sym (ap (λ (ys : List Act). all xs ys) l)
