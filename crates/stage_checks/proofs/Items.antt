-- One more item of a list.
use Rattle.std.proofs.Common.{◌≡◌, ◌<◌, ◌+◌, ℕ, suc, List, ◌∷◌, length, map, get_or, drop, drop-cons, ap, sym, ◌∙◌, add-one}
use Rattle.std.specs.Global.{Vec}
use Rattle.lisa_tree.specs.declared.statements.Stmt.{Stmt}
use Rattle.lisa_tree.specs.declared.statements.Stmt.TheVariants as stmts
use Rattle.lisa_tree.specs.declared.descriptions.Operation.{Operation}
use Rattle.lisa_tree.specs.Statements.{Then, stmt_tree, stmt_trees}
use Rattle.lisa_tree.specs.Descriptions.{operation_tree}
use Rattle.lisa_tree.proofs.Views.{stmt_tree-Block}
use Rattle.stage_checks.specs.Closing.{holds, any_holds}

module _ {A B : Type 0} (f : A → B) where
  pub one_item : (all : List A) (i : ℕ) (x : A) → i < length all → x ≡ get_or all i x → map f (drop i all) ≡ f x ∷ map f (drop (i + 1) all)
  one_item all i x h e =
      ap (map f) (drop-cons all i x h)
      ∙ ap (λ (y : A). f y ∷ map f (drop (suc i) all)) (sym e)
      ∙ ap (λ (m : ℕ). f x ∷ map f (drop m all)) (sym (add-one i))

pub one_operation : (all : List Operation) (i : ℕ) (x : Operation) → i < length all → x ≡ get_or all i x → map operation_tree (drop i all) ≡ operation_tree x ∷ map operation_tree (drop (i + 1) all)
one_operation = one_item operation_tree

pub one_statement : (all : List Stmt) (i : ℕ) (s : Stmt) → i < length all → s ≡ get_or all i s → stmt_trees (drop i all) ≡ Then (stmt_tree s) (stmt_trees (drop (i + 1) all))
one_statement all i s h e =
    ap stmt_trees (drop-cons all i s h)
    ∙ ap (λ (x : Stmt). Then (stmt_tree x) (stmt_trees (drop (suc i) all))) (sym e)
    ∙ ap (λ (m : ℕ). Then (stmt_tree s) (stmt_trees (drop m all))) (sym (add-one i))

pub holds-Block : (s : Stmt) (v : Vec Stmt) (xs : List Stmt) → s ≡ stmts.Block v → xs ≡ v.items → holds (stmt_tree s) ≡ any_holds (stmt_trees xs)
holds-Block s v xs h k =
    ap (λ (s : Stmt). holds (stmt_tree s)) h ∙ ap holds (stmt_tree-Block v) ∙ sym (ap (λ (xs : List Stmt). any_holds (stmt_trees xs)) k)
