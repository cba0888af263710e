-- The conditions of activations, by operation.
use Rattle.std.proofs.Common.{◌≡◌, ◌<◌, ◌≤◌, ◌+◌, ◌∙◌, ℕ, zero, suc, List, [], ◌∷◌, ◌++◌, Option, None, Some, length, get_or, map, drop, refl, sym, ap, arith}
use Rattle.std.specs.Prelude.{slice_get, option_map}
use Rattle.std.specs.Borrow.{Bor}
use Rattle.std.specs.Global.{Vec}
use Rattle.std.proofs.lemmas.List.{get_or-map}
use Rattle.std.proofs.lemmas.Option.{slice_get-map, slice_get-get_or, slice_get_past}
use Rattle.lisa_tree.specs.declared.expressions.Expr.{Expr}
use Rattle.lisa_tree.specs.declared.descriptions.Operation.{Operation}
use Rattle.lisa_tree.specs.Descriptions.{SectionTree, OperationTree, DescriptionTree, operation_tree}
use Rattle.lisa_tree.specs.Expressions.{ExprTree, expr_tree}
use Rattle.lisa_tree.specs.Operations.{activation_in, sections_at}
use Rattle.description_tables.proofs.Lists.{one_more}
use Rattle.lisa_meaning.specs.Cores.{conditions_in}
use Rattle.scene_paths.specs.Conditions.{conditions_of, all_conditions, expressions_of, rows_of}

pub one_row : (all : List Operation) (i : ℕ) (o : Operation) → i < length all → o ≡ get_or all i o
    → all_conditions (map operation_tree (drop i all)) ≡ (conditions_of (operation_tree o) ∷ []) ++ all_conditions (map operation_tree (drop (i + 1) all))
one_row all i o h is = ap (λ (os : List Operation). all_conditions (map operation_tree os)) (one_more all i o h is)

abbrev conditions_at : Option OperationTree → List ExprTree
conditions_at None = []
conditions_at (Some x) = conditions_of x

row_is : (all : List OperationTree) (o : ℕ) → get_or (all_conditions all) o [] ≡ conditions_at (slice_get all o)
row_is [] zero = refl
row_is [] (suc o) = refl
row_is (x ∷ rest) zero = refl
row_is (x ∷ rest) (suc o) = row_is rest o

pub row_at : (d : DescriptionTree) (o : ℕ) → get_or (all_conditions d.operations) o [] ≡ conditions_in (activation_in (sections_at d o))
row_at d o = row_is d.operations o ∙ by (slice_get d.operations o) refl
  where
    by : (r : Option OperationTree) → slice_get d.operations o ≡ r → conditions_at r ≡ conditions_in (activation_in (sections_at d o))
    by None at = let none : sections_at d o ≡ [] = cc at in sym (ap (λ (all : List SectionTree). conditions_in (activation_in all)) none)
    by (Some x) at = let own : sections_at d o ≡ x.sections = cc at in sym (ap (λ (all : List SectionTree). conditions_in (activation_in all)) own)

-- ---- read from the kept rows

pub row_read : (rows : List (Vec (Bor Expr))) (o : ℕ) (row : Vec (Bor Expr)) → o < length rows → row ≡ get_or rows o row → get_or (rows_of rows) o [] ≡ expressions_of row.items
row_read rows o row h is = get_or-map (λ (r : Vec (Bor Expr)). expressions_of r.items) rows o row [] h ∙ ap (λ (r : Vec (Bor Expr)). expressions_of r.items) (sym is)

pub row_past : (rows : List (Vec (Bor Expr))) (o : ℕ) → length rows ≤ o → get_or (rows_of rows) o [] ≡ []
row_past [] zero h = refl
row_past [] (suc o) h = refl
row_past (row ∷ rows) zero h = absurd (omega (arith, h))
row_past (row ∷ rows) (suc o) h = row_past rows o (omega (arith, h))

pub expression_read : (row : List (Bor Expr)) (k : ℕ) (e : Bor Expr) → k < length row → e ≡ get_or row k e → slice_get (expressions_of row) k ≡ Some (expr_tree e.now)
expression_read row k e h is =
    slice_get-map (λ (x : Bor Expr). expr_tree x.now) row k
    ∙ ap (option_map (λ (x : Bor Expr). expr_tree x.now)) (slice_get-get_or row k e h)
    ∙ ap (λ (x : Bor Expr). Some (expr_tree x.now)) (sym is)

pub expression_past : (row : List (Bor Expr)) (k : ℕ) → length row ≤ k → slice_get (expressions_of row) k ≡ None
expression_past row k h = slice_get-map (λ (x : Bor Expr). expr_tree x.now) row k ∙ ap (option_map (λ (x : Bor Expr). expr_tree x.now)) (slice_get_past row k h)

-- a condition of an operation, by the kept rows
pub condition_is : (d : DescriptionTree) (rows : List (Vec (Bor Expr))) (o test : ℕ) → rows_of rows ≡ all_conditions d.operations → slice_get (get_or (rows_of rows) o []) test ≡ slice_get (conditions_in (activation_in (sections_at d o))) test
condition_is d rows o test are = ap (λ (all : List (List ExprTree)). slice_get (get_or all o []) test) are ∙ ap (λ (row : List ExprTree). slice_get row test) (row_at d o)
