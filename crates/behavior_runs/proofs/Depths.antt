-- No expression of a description is deeper than the description.
use Rattle.std.proofs.Common.{◌≡◌, ◌<◌, ◌≤◌, ◌+◌, ◌-◌, ◌*◌, ℕ, zero, suc, List, [], ◌∷◌, Option, None, Some, refl, sym, ap, subst, arith, ◌∙◌}
use Rattle.std.specs.Prelude.{slice_get}
use Rattle.std.proofs.lemmas.Option.{same_Some}
use Rattle.lisa_tree.specs.Expressions as exprs
use Rattle.lisa_tree.specs.Expressions.{ExprTree, expr_depth}
use Rattle.lisa_tree.specs.Descriptions as trees
use Rattle.lisa_tree.specs.Descriptions.{SectionTree, OperationTree, DescriptionTree, section_depth, sections_depth, operations_depth, description_depth}
use Rattle.lisa_tree.specs.Operations.{expression_in, sections_at}

expression_deep : (all : List SectionTree) (e : ExprTree) → expression_in all ≡ Some e → expr_depth e ≤ sections_depth all
expression_deep [] e is = absurd (cc is)
expression_deep (trees.Expression x ∷ rest) e is = let same : expr_depth x ≡ expr_depth e = ap expr_depth (same_Some x e is) in omega (arith, same)
expression_deep (trees.Declares all ∷ rest) e is = let h = expression_deep rest e is in omega (arith, h)
expression_deep (trees.Coding part ∷ rest) e is = let h = expression_deep rest e is in omega (arith, h)
expression_deep (trees.Syntax items ∷ rest) e is = let h = expression_deep rest e is in omega (arith, h)
expression_deep (trees.Behavior statements ∷ rest) e is = let h = expression_deep rest e is in omega (arith, h)
expression_deep (trees.Activation acts ∷ rest) e is = let h = expression_deep rest e is in omega (arith, h)

operation_deep : (all : List OperationTree) (o : ℕ) (x : OperationTree) → slice_get all o ≡ Some x → sections_depth x.sections ≤ operations_depth all
operation_deep [] o x is = absurd (cc is)
operation_deep (y ∷ rest) zero x is = let same : sections_depth y.sections ≡ sections_depth x.sections = ap (λ (z : OperationTree). sections_depth z.sections) (same_Some y x is) in omega (arith, same)
operation_deep (y ∷ rest) (suc o) x is = let h = operation_deep rest o x is in omega (arith, h)

pub expression_depth : (d : DescriptionTree) (o : ℕ) (e : ExprTree) → expression_in (sections_at d o) ≡ Some e → expr_depth e ≤ description_depth d
expression_depth d o e is = by (slice_get d.operations o) refl
  where
    by : (r : Option OperationTree) → slice_get d.operations o ≡ r → expr_depth e ≤ description_depth d
    by None at = let none : sections_at d o ≡ [] = cc at in absurd (let h = sym (ap expression_in none) ∙ is in cc h)
    by (Some x) at =
        let own : sections_at d o ≡ x.sections = cc at in
        let a = expression_deep x.sections e (sym (ap expression_in own) ∙ is) in
        let b = operation_deep d.operations o x at in
        omega (arith, a, b)

-- one level less outweighs any expression
pub falls : (levels deepest depth : ℕ) → 0 < levels → depth ≤ deepest → 4 * ((levels - 1) * suc deepest + depth) < suc (4 * (levels * suc deepest))
falls zero deepest depth h le = absurd (omega (arith, h))
falls (suc levels) deepest depth h le =
    let one : suc levels - 1 ≡ levels = omega arith in
    subst (λ (n : ℕ). 4 * (n * suc deepest + depth) < suc (4 * (suc levels * suc deepest))) (sym one) (omega (arith, le))

pub leaf_depth : (e : ExprTree) → 1 ≤ expr_depth e
leaf_depth (exprs.Number v base) = omega arith
leaf_depth (exprs.Named n) = omega arith
leaf_depth (exprs.Element n index) = omega arith
leaf_depth (exprs.Input field) = omega arith
leaf_depth (exprs.Output field) = omega arith
leaf_depth (exprs.Boundary pipe before after field) = omega arith
leaf_depth exprs.Decoded = omega arith
leaf_depth (exprs.Cast shape a) = omega arith
leaf_depth (exprs.Complement a) = omega arith
leaf_depth (exprs.Negate a) = omega arith
leaf_depth (exprs.Two operator a b) = omega arith
leaf_depth (exprs.Choose c a b) = omega arith
